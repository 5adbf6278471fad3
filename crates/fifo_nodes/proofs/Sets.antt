-- Terms of a graph that are one, and sets of them.
use Rattle.std.proofs.Common.{◌≡◌, ◌∙◌, sym, ap, ap₂, refl, subst, inl, inr, ◌⊎◌, Bool, Option, List, Contains}
use Rattle.cdc_model.proofs.Ascending.{in_map, from_map}
use Rattle.cell_graph.specs.declared.cell.Node.{Node}
use Rattle.cell_graph.specs.Cells.{Cells}
use Rattle.fifo_terms.specs.Terms as rules
use Rattle.fifo_terms.specs.Terms.{AreOne, HasTerm, HaveOneSet}
use Rattle.gray_pointer.specs.Words.{IsPlain}
use Rattle.gray_pointer.proofs.Wholes.{same_origins}
use Rattle.fifo_nodes.specs.declared.term.Term.{Term}
use Rattle.fifo_nodes.specs.declared.term.Term.TheVariants.{Is, Differ}
use Rattle.fifo_nodes.specs.Terms.{term_of, terms_of, turned, IsTermIn, AreTerms}

one_self : (t : rules.Term) → AreOne t t
one_self (rules.Is n v) = (refl, refl)
one_self (rules.Differ a b v) = (inl (refl, refl), refl)

-- terms that were found have one set with the terms that they are
pub one_set : (g : Cells) (ts : List rules.Term) (found : List Term) → AreTerms g ts found → HaveOneSet ts (terms_of g found)
one_set g ts found is = (λ t h. (t, is.all t h, one_self t), λ t h. (t, is.only t h, one_self t))

module _ (g : Cells) where
  -- a term is one with itself and with itself turned
  pub same_one : (t u : Term) → t ≡ u → AreOne (term_of g t) (term_of g u)
  same_one t u e = subst (λ (x : Term). AreOne (term_of g t) (term_of g x)) e (one_self (term_of g t))

  turned_self : (u : Term) → AreOne (term_of g (turned u)) (term_of g u)
  turned_self (Is n v) = (refl, refl)
  turned_self (Differ a b v) = (inr (refl, refl), refl)

  pub turned_one : (t u : Term) → t ≡ turned u → AreOne (term_of g t) (term_of g u)
  turned_one t u e = subst (λ (x : Term). AreOne (term_of g x) (term_of g u)) (sym e) (turned_self u)

  module _ (plain : IsPlain g) where
    -- and with no other
    pub one_tells : (t u : Term) → IsTermIn g t → IsTermIn g u → AreOne (term_of g t) (term_of g u) → (t ≡ u) ⊎ (t ≡ turned u)
    one_tells (Is n v) (Is m u) h k e = inl (ap₂ (λ (x : Option Node) (y : Bool). Is x y) (same_origins g plain n m h k e.0) e.1)
    one_tells (Differ a b v) (Differ c d u) h k (inl e, f) =
        inl (ap₂ (λ (x : Option Node) (y : Bool). Differ x b y) (same_origins g plain a c h.0 k.0 e.0) f ∙ ap (λ (x : Option Node). Differ c x u) (same_origins g plain b d h.1 k.1 e.1))
    one_tells (Differ a b v) (Differ c d u) h k (inr e, f) =
        inr (ap₂ (λ (x : Option Node) (y : Bool). Differ x b y) (same_origins g plain a d h.0 k.1 e.0) f ∙ ap (λ (x : Option Node). Differ d x u) (same_origins g plain b c h.1 k.0 e.1))
    one_tells (Is n v) (Differ c d u) h k e = absurd e
    one_tells (Differ a b v) (Is m u) h k e = absurd e

  -- two terms aren't one; a term is among others
  abbrev pub IsOther : Term → Term → Type 0
  IsOther t u = AreOne (term_of g t) (term_of g u) → ⊥

  abbrev pub IsAmong : List Term → Term → Type 0
  IsAmong us t = HasTerm (terms_of g us) (term_of g t)

  pub has_found : (us : List Term) (t u : Term) → Contains us u → AreOne (term_of g t) (term_of g u) → HasTerm (terms_of g us) (term_of g t)
  has_found us t u h e = (term_of g u, in_map (term_of g) us u h, e)

  pub found_has : (us : List Term) (t : Term) → HasTerm (terms_of g us) (term_of g t)
      → (u : Term) × Contains us u × AreOne (term_of g t) (term_of g u)
  found_has us t (x, h, e) = let k = from_map (term_of g) us x h in (k.0, k.1, subst (AreOne (term_of g t)) (sym k.2) e)
