-- The terms that the low bits of a count are those of a number.
use Rattle.std.proofs.Common.{◌≡◌, ◌∙◌, ◌↔◌, sym, ap, refl, subst, arith, ℕ, zero, suc, ◌-◌, ◌<◌, ◌≤◌, Bool, true, List, [], ◌∷◌, length, Some, None, inl, inr}
use Rattle.std.specs.List.{Contains}
use Rattle.std.proofs.lemmas.List.Elements.{Contains-append_left, Contains-append_right, Contains-append_cases}
use Rattle.cell_graph.specs.declared.cell.Cell.TheVariants.{Var}
use Rattle.cell_graph.specs.declared.cell.CellId.{CellId}
use Rattle.cell_graph.specs.Cells.{Cells, cell_at, cell_width, signal_width}
use Rattle.cell_graph.specs.Nets.{bit_count}
use Rattle.cell_graph.specs.Tree as tree
use Rattle.cell_graph.specs.Tree.{Tree, width, bit_at}
use Rattle.cell_graph.specs.Unfolded.{unfolded, trees, tree_of}
use Rattle.cell_graph.proofs.Trees.{width-tree_of}
use Rattle.cdc_model.specs.Design.{Design}
use Rattle.cdc_model.proofs.Ascending.{here, later, parts, nothing_in, in_map, from_map}
use Rattle.fifo_terms.specs.Terms as rules
use Rattle.fifo_terms.specs.Terms.{AreOne, HasTerm, HaveOneSet}
use Rattle.fifo_laws.specs.Sides.{Side, side_width}
use Rattle.fifo_laws.specs.Words.{low_bits, index_terms}
use Rattle.gray_pointer.specs.Words.{IsPlain}
use Rattle.gray_pointer.proofs.Trees.{tree_there}
use Rattle.gray_pointer.proofs.Wholes.{bit_signal}
use Rattle.fifo_nodes.specs.declared.term.Term.{Term}
use Rattle.fifo_nodes.specs.declared.term.Term.TheVariants.{Is, Differ}
use Rattle.fifo_nodes.specs.Terms.{term_of, terms_of, IsTermIn, AreTermsIn, AreTerms}
use Rattle.fifo_ways.specs.declared.choice.Index.{Index}
use Rattle.fifo_ways.specs.Steps.{IsIndexOf, IsIndexCell, node_at, place_terms}
use Rattle.fifo_ways.proofs.Steps.{signal_there}

-- two lists with the same terms
abbrev AreSame : List rules.Term → List rules.Term → Type 0
AreSame ts us = (t : rules.Term) → Contains ts t ↔ Contains us t

-- have one set with the same lists
one_set-same : (ts us vs ws : List rules.Term) → AreSame ts us → AreSame vs ws → HaveOneSet ts vs → HaveOneSet us ws
one_set-same ts us vs ws e f h = (
  λ t k. let j = h.0 t ((e t).1 k) in (j.0, (f j.0).0 j.1, j.2),
  λ t k. let j = h.1 t ((f t).1 k) in (j.0, (e j.0).0 j.1, j.2),
)

-- the lowest bit is among one bit or more
lowest : (sig w m n : ℕ) → Contains (low_bits sig w (suc m) n) (rules.Is (Some (tree.Var sig w, 0)) (bit_at n 0))
lowest sig w zero n = here (rules.Is (Some (tree.Var sig w, 0)) (bit_at n 0)) []
lowest sig w (suc m) n = later (rules.Is (Some (tree.Var sig w, suc m)) (bit_at n (suc m))) (low_bits sig w (suc m) n) _ (lowest sig w m n)

-- the term that bit i of a cell is that of n
abbrev bit_term : CellId → ℕ → ℕ → Term
bit_term c i n = Is (Some (node_at c i)) (bit_at n i)

module _ (g : Cells) (c : CellId) where
  places_in : c.0 < length g.cells → (m n : ℕ) → m ≤ cell_width g c → AreTermsIn g (place_terms c m n)
  places_in l zero n le t h = absurd (nothing_in t h)
  places_in l (suc m) n le t h = elim (Contains-append_cases (place_terms c m n) (bit_term c m n ∷ []) t h) [
    | inl k ↦ places_in l m n (omega arith) t k
    | inr k ↦ elim (parts (bit_term c m n) [] t k) [ inl e ↦ subst (IsTermIn g) e (l, omega arith) | inr j ↦ absurd (nothing_in t j) ]
  ]

  module _ (sig w : ℕ) (is : tree_of g c ≡ tree.Var sig w) where
    one_bit : (i n : ℕ) → term_of g (bit_term c i n) ≡ rules.Is (Some (tree.Var sig w, i)) (bit_at n i)
    one_bit i n = ap (λ (t : Tree). rules.Is (Some (t, i)) (bit_at n i)) is

    listed : (m n : ℕ) (t : rules.Term) → Contains (low_bits sig w m n) t → Contains (terms_of g (place_terms c m n)) t
    listed zero n t h = absurd (nothing_in t h)
    listed (suc m) n t h = elim (parts (rules.Is (Some (tree.Var sig w, m)) (bit_at n m)) (low_bits sig w m n) t h) [
      | inl e ↦ subst (λ y. Contains (terms_of g (place_terms c (suc m) n)) y) (one_bit m n ∙ e)
          (in_map (term_of g) (place_terms c (suc m) n) (bit_term c m n)
          (Contains-append_right (place_terms c m n) (bit_term c m n ∷ []) (bit_term c m n) (here (bit_term c m n) [])))
      | inr k ↦
          let j = from_map (term_of g) (place_terms c m n) t (listed m n t k) in
          subst (λ y. Contains (terms_of g (place_terms c (suc m) n)) y) j.2
          (in_map (term_of g) (place_terms c (suc m) n) j.0 (Contains-append_left (place_terms c m n) (bit_term c m n ∷ []) j.0 j.1))
    ]

    from_place : (m n : ℕ) (t : Term) → Contains (place_terms c m n) t → Contains (low_bits sig w m n) (term_of g t)
    from_place zero n t h = absurd (nothing_in t h)
    from_place (suc m) n t h = elim (Contains-append_cases (place_terms c m n) (bit_term c m n ∷ []) t h) [
      | inl k ↦ later (rules.Is (Some (tree.Var sig w, m)) (bit_at n m)) (low_bits sig w m n) (term_of g t) (from_place m n t k)
      | inr k ↦ elim (parts (bit_term c m n) [] t k) [
        | inl e ↦ subst (λ y. Contains (low_bits sig w (suc m) n) y) (sym (one_bit m n) ∙ ap (term_of g) e)
            (here (rules.Is (Some (tree.Var sig w, m)) (bit_at n m)) (low_bits sig w m n))
        | inr j ↦ absurd (nothing_in t j)
      ]
    ]

    same_terms : (m n : ℕ) → AreSame (terms_of g (place_terms c m n)) (low_bits sig w m n)
    same_terms m n t = (
      (λ h. let j = from_map (term_of g) (place_terms c m n) t h in subst (λ y. Contains (low_bits sig w m n) y) j.2 (from_place m n j.0 j.1)),
      listed m n t,
    )

-- Terms that were found, by the cell of a count in them.
module _ (g : Cells) (plain : IsPlain g) (d : Design) (wide : (sig : ℕ) → d.width sig ≡ bit_count g.signals sig) (s : Side) (x : Index)
    (index : IsIndexOf d s x)
    (ts : List rules.Term) (found : List Term) (are : AreTerms g ts found) (n : ℕ) where
  -- where none of them is on the count there is no index in them
  pub no_index : IsIndexCell g found x.count None → HaveOneSet ts (index_terms d s n) → ⊥
  no_index none one = go j.0 j.1 (subst (AreOne first) (sym j.2) k.2)
    where
      first : rules.Term
      first = rules.Is (Some (tree.Var s.reg.count (side_width d s), 0)) (bit_at n 0)

      many : side_width d s - 1 ≡ suc (x.bits - 1)
      many = let e = index.bits in let l = index.some in omega arith

      k : HasTerm ts first
      k =
          one.1 first (subst (λ m. Contains (low_bits s.reg.count (side_width d s) m n) first) (sym many)
          (lowest s.reg.count (side_width d s) (x.bits - 1) n))

      j : (t : Term) × Contains found t × (term_of g t ≡ k.0)
      j = from_map (term_of g) found k.0 (are.all k.0 k.1)

      go : (t : Term) → Contains found t → AreOne first (term_of g t) → ⊥
      go (Is None v) h e = let f = e.0 in cc
      go (Is (Some m) v) h e =
          let is = are.within (Is (Some m) v) h in
          let at = bit_signal g plain m is s.reg.count (side_width d s) 0 e.0 in
          none (Is (Some m) v) h m.cell (m, v, refl, refl, at ∙ ap (λ sig. Var sig) index.count)
      go (Differ a b v) h e = absurd e

  module _ (c : CellId) (is : IsIndexCell g found x.count (Some c)) where
    here_cell : c.0 < length g.cells
    here_cell = subst (λ (y : CellId). y.0 < length g.cells) is.2.3 (subst (IsTermIn g) is.2.2 (are.within is.0 is.1)).0

    at : cell_at g c ≡ Var s.reg.count
    at = is.2.4 ∙ ap (λ sig. Var sig) (sym index.count)

    as_wide : signal_width g.signals s.reg.count ≡ side_width d s
    as_wide = signal_there g plain c here_cell s.reg.count at ∙ sym (wide s.reg.count)

    tree_is : tree_of g c ≡ tree.Var s.reg.count (side_width d s)
    tree_is = tree_there g plain.well c here_cell ∙ ap (unfolded g.signals (trees g)) at ∙ ap (tree.Var s.reg.count) as_wide

    terms_within : AreTermsIn g (place_terms c x.bits n)
    terms_within = places_in g c here_cell x.bits n (let w = width-tree_of g c ∙ ap width tree_is in let e = index.bits in omega arith)

    few : side_width d s - 1 ≡ x.bits
    few = let e = index.bits in omega arith

    same_place : AreSame (terms_of g (place_terms c x.bits n)) (index_terms d s n)
    same_place = subst (λ m. AreSame (terms_of g (place_terms c x.bits n)) (low_bits s.reg.count (side_width d s) m n)) (sym few)
        (same_terms g c s.reg.count (side_width d s) tree_is x.bits n)

    same_found : AreSame (terms_of g found) ts
    same_found t = (are.only t, are.all t)

    by_cell : HaveOneSet (terms_of g found) (terms_of g (place_terms c x.bits n)) ↔ HaveOneSet ts (index_terms d s n)
    by_cell = (
      one_set-same (terms_of g found) ts (terms_of g (place_terms c x.bits n)) (index_terms d s n) same_found same_place,
      one_set-same ts (terms_of g found) (index_terms d s n) (terms_of g (place_terms c x.bits n)) (λ t. (are.all t, are.only t))
          (λ t. ((same_place t).1, (same_place t).0)),
    )

    -- where one is, they are those of the index exactly where they are those of its cell
    pub decided : (one another : List Term) → one ≡ found → another ≡ place_terms c x.bits n → (answer : Bool)
        → (AreTermsIn g one → AreTermsIn g another → (answer ≡ true) ↔ HaveOneSet (terms_of g one) (terms_of g another))
        → (answer ≡ true) ↔ HaveOneSet ts (index_terms d s n)
    decided one another e f answer says =
        let iff = says (subst (AreTermsIn g) (sym e) are.within) (subst (AreTermsIn g) (sym f) terms_within) in
        let right = subst (λ us. (answer ≡ true) ↔ HaveOneSet (terms_of g one) (terms_of g us)) f iff in
        let both = subst (λ us. (answer ≡ true) ↔ HaveOneSet (terms_of g us) (terms_of g (place_terms c x.bits n))) e right in
        ((λ t. by_cell.0 (both.0 t)), λ h. both.1 (by_cell.1 h))
