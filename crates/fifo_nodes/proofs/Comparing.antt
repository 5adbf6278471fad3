-- Terms that say how bits of codes differ.
use Rattle.std.proofs.Common.{◌≡◌, ◌∙◌, sym, ap, refl, subst, inl, inr, ◌⊎◌, ℕ, Bool, not, Some, List, All, Contains}
use Rattle.std.proofs.lemmas.List.Elements.{All-contains}
use Rattle.cdc_model.proofs.Ascending.{in_map, from_map}
use Rattle.cell_graph.specs.Cells.{Cells}
use Rattle.cell_graph.specs.Origin.{TreeBit}
use Rattle.fifo_terms.specs.Codes.{Code, IsCodeBit}
use Rattle.fifo_terms.specs.Shows.{Shows, IsTest}
use Rattle.fifo_terms.specs.Terms as rules
use Rattle.fifo_terms.specs.Terms.{Is, Differ}
use Rattle.fifo_nodes.specs.declared.term.Term.{Term}
use Rattle.fifo_nodes.specs.Shows.{Compares, IsSaid}
use Rattle.fifo_nodes.specs.Terms.{term_of, AreTerms}

module _ (k : Code) (over : List TreeBit) (apart : ℕ → ℕ → Bool) where
  -- ---- one term

  module _ (a b : TreeBit) (v : Bool) where
    pub said_in_order : Compares k over apart a b v → IsSaid k over apart (Differ a b v)
    said_in_order (i, l, c, s) = (i, a, b, l, c, s.0, (inl (refl, refl), s.1))

    pub said_in_turn : Compares k over apart b a v → IsSaid k over apart (Differ a b v)
    said_in_turn (i, l, c, s) = (i, b, a, l, c, s.0, (inr (refl, refl), s.1))

    pub said_compares : IsSaid k over apart (Differ a b v) → Compares k over apart a b v ⊎ Compares k over apart b a v
    said_compares (i, x, y, l, c, s, (inl (e, f), u)) = inl (i, l, subst (IsCodeBit k i) (sym e) c, (s ∙ ap Some (sym f), u))
    said_compares (i, x, y, l, c, s, (inr (e, f), u)) = inr (i, l, subst (IsCodeBit k i) (sym f) c, (s ∙ ap Some (sym e), u))

  -- ---- all terms of a node

  module _ (g : Cells) where
    abbrev pub Says : Term → Type 0
    Says t = IsSaid k over apart (term_of g t)

    abbrev pub IsNoTest : Term → Type 0
    IsNoTest t = IsTest k over apart (term_of g t) → ⊥

  module _ {g : Cells} {ts : List rules.Term} {found : List Term} (are : AreTerms g ts found) where
    pub each_said : All (Says g) found → (t : rules.Term) → Contains ts t → IsSaid k over apart t
    each_said all t h = let (u, i, e) = from_map (term_of g) found t (are.all t h) in
        subst (IsSaid k over apart) e (All-contains (Says g) found u all i)

    pub said_each : ((t : rules.Term) → Contains ts t → IsSaid k over apart t) → (t : Term) → Contains found t → Says g t
    said_each h t i = h (term_of g t) (are.only (term_of g t) (in_map (term_of g) found t i))

    pub some_test : (t : Term) → Contains found t → IsTest k over apart (term_of g t) → (u : rules.Term) × Contains ts u × IsTest k over apart u
    some_test t i h = (term_of g t, are.only (term_of g t) (in_map (term_of g) found t i), h)

    pub no_test : All (IsNoTest g) found → (u : rules.Term) × Contains ts u × IsTest k over apart u → ⊥
    no_test none (u, i, h) = let (t, l, e) = from_map (term_of g) found u (are.all u i) in
        All-contains (IsNoTest g) found t none l (subst (IsTest k over apart) (sym e) h)

  -- ---- tests

  pub test_shows : (n : TreeBit) (v : Bool) → IsTest k over apart (Is n v) → Shows k over apart n (not v)
  test_shows n v (m, u, e, h) = let f : n ≡ m = cc in let i : v ≡ u = cc in
      subst (λ (x : TreeBit). Shows k over apart x (not v)) (sym f) (subst (λ (y : Bool). Shows k over apart m (not y)) (sym i) h)
