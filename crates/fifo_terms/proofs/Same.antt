-- Lists with one set of terms hold together.
use Rattle.std.proofs.Common.{◌≡◌, zero, suc, ◌&&◌, Bool, true, false, List, [], ◌∷◌, inl, inr, refl, sym, ap₂, subst, ◌∙◌, arith}
use Rattle.std.specs.Bool.{beq}
use Rattle.std.specs.List.{Contains}
use Rattle.std.proofs.lemmas.Bool.{and_parts}
use Rattle.cell_graph.specs.Reading.{Reading}
use Rattle.cell_graph.specs.Origin.{tree_bit}
use Rattle.cdc_model.specs.Gray.{exclusive_or}
use Rattle.fifo_terms.specs.Terms.{Term, Is, Differ, holds, all_hold, AreOne, HasTerm, HaveOneSet}
use Rattle.fifo_terms.proofs.Terms.{xor_comm}

module _ (r : Reading) where
  -- of terms that all hold each holds, and if each holds all do
  pub each_holds : (ts : List Term) (t : Term) → all_hold r ts ≡ true → Contains ts t → holds r t ≡ true
  each_holds [] t h i = absurd (omega (arith, i.1))
  each_holds (s ∷ ts) t h (zero, l, e) = subst (λ (u : Term). holds r u ≡ true) e (and_parts (holds r s) (all_hold r ts) h).0
  each_holds (s ∷ ts) t h (suc k, l, e) = each_holds ts t (and_parts (holds r s) (all_hold r ts) h).1 (k, omega (arith, l), e)

  pub all_holds : (ts : List Term) → ((t : Term) → Contains ts t → holds r t ≡ true) → all_hold r ts ≡ true
  all_holds [] h = refl
  all_holds (t ∷ ts) h = ap₂ (λ u v. u && v) (h t (0, omega arith, refl)) (all_holds ts (λ s i. h s (suc i.0, omega (arith, i.1), i.2)))

  pub one_holds : (t u : Term) → AreOne t u → holds r t ≡ holds r u
  one_holds (Is n v) (Is m u) e = ap₂ (λ z w. beq (tree_bit r z) w) e.0 e.1
  one_holds (Differ a b v) (Differ c d u) (inl e, f) = ap₂ beq (ap₂ (λ y z. exclusive_or (tree_bit r y) (tree_bit r z)) e.0 e.1) f
  one_holds (Differ a b v) (Differ c d u) (inr e, f) = ap₂ beq (xor_comm (tree_bit r a) (tree_bit r b) ∙ ap₂ (λ y z. exclusive_or (tree_bit r y) (tree_bit r z)) e.1 e.0) f
  one_holds (Is n v) (Differ c d u) e = absurd e
  one_holds (Differ a b v) (Is m u) e = absurd e

  pub has_holds : (ts : List Term) (t : Term) → all_hold r ts ≡ true → HasTerm ts t → holds r t ≡ true
  has_holds ts t h (u, i, e) = one_holds t u e ∙ each_holds ts u h i

  pub same_hold : (ts us : List Term) → HaveOneSet ts us → all_hold r ts ≡ all_hold r us
  same_hold ts us s = go (all_hold r ts) (all_hold r us) refl refl
    where
      go : (u v : Bool) → all_hold r ts ≡ u → all_hold r us ≡ v → u ≡ v
      go true v e f = sym (all_holds us (λ t i. has_holds ts t e (s.1 t i))) ∙ f
      go false true e f = sym e ∙ all_holds ts (λ t i. has_holds us t f (s.0 t i))
      go false false e f = refl
