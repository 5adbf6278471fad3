-- Conditions that a side's count is at 0, 1 and so on, one more at a time.
use Rattle.std.proofs.Common.{◌≡◌, ◌∙◌, sym, ap, subst, refl, inl, inr, ◌⊎◌, ℕ, zero, suc, true, List, [], ◌∷◌, ◌++◌, length, Some, slice_get}
use Rattle.cell_graph.specs.declared.cell.CellId.{CellId}
use Rattle.cell_graph.specs.declared.cell.Node.{Node}
use Rattle.cell_graph.specs.Cells.{Cells}
use Rattle.cell_graph.specs.Unfolded.{tree_of}
use Rattle.cdc_model.specs.Design.{Design}
use Rattle.fifo_terms.specs.Terms.{HaveOneSet, terms}
use Rattle.fifo_laws.specs.Sides.{Side}
use Rattle.fifo_laws.specs.Words.{index_terms}
use Rattle.fifo_nodes.specs.Terms.{terms_at}
use Rattle.fifo_ways.specs.Steps.{AreConditions}

get_push : {X : Type 0} (xs : List X) (x y : X) (n : ℕ) → slice_get (xs ++ x ∷ []) n ≡ Some y → (slice_get xs n ≡ Some y) ⊎ ((n ≡ length xs) × (x ≡ y))
get_push [] x y zero at = inr (refl, (let e : x ≡ y = cc in e))
get_push [] x y (suc n) at = cc
get_push (z ∷ xs) x y zero at = inl at
get_push (z ∷ xs) x y (suc n) at = elim (get_push xs x y n at) [ inl h ↦ inl h | inr h ↦ inr (ap suc h.0, h.1) ]

module _ (g : Cells) (d : Design) (s : Side) where
  pub no_conditions : AreConditions g d s []
  no_conditions zero c at = cc
  no_conditions (suc n) c at = cc

  module _ (cond : Node) (low : cond.at ≡ 0) (n : ℕ) (old : List CellId) (are : AreConditions g d s old) where
    low_terms : terms_at g cond true ≡ terms (tree_of g cond.cell) 0 true
    low_terms = ap (λ i. terms (tree_of g cond.cell) i true) low

    -- the condition that is known for a place
    pub known_condition : slice_get old n ≡ Some cond.cell → HaveOneSet (terms_at g cond true) (index_terms d s n)
    known_condition at = subst (λ ts. HaveOneSet ts (index_terms d s n)) (sym low_terms) (are n cond.cell at)

    pub more_conditions : (new : List CellId) → HaveOneSet (terms_at g cond true) (index_terms d s n)
        → (new ≡ old) ⊎ ((n ≡ length old) × (new ≡ old ++ cond.cell ∷ [])) → AreConditions g d s new
    more_conditions new is (inl e) = subst (AreConditions g d s) (sym e) are
    more_conditions new is (inr e) = λ m c at. elim (get_push old cond.cell c m (ap (λ (cs : List CellId). slice_get cs m) (sym e.1) ∙ at)) [
      | inl h ↦ are m c h
      | inr h ↦ subst (λ (k : ℕ). HaveOneSet (terms (tree_of g c) 0 true) (index_terms d s k)) (e.0 ∙ sym h.0)
          (subst (λ (x : CellId). HaveOneSet (terms (tree_of g x) 0 true) (index_terms d s n)) h.1
          (subst (λ ts. HaveOneSet ts (index_terms d s n)) low_terms is))
    ]
