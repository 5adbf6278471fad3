-- Equal cells are kept once, also where one more is added.
use Rattle.std.proofs.Common.{◌≡◌, ◌∙◌, ℕ, zero, suc, ◌+◌, Bool, true, false, cond, List, [], ◌∷◌, ◌++◌, length, Option, Some, None, is_some, slice_get, refl, sym, ap, subst, inl, inr, ◌⊎◌, arith, rules}
use Rattle.std.specs.List.{position_from}
use Rattle.std.specs.Cmp.Rules.{comparing}
use Rattle.std.proofs.lemmas.Bool.{cases_Bool, false≢true}
use Rattle.std.proofs.lemmas.Iterator.Adapters.{position_from-zero}
use Rattle.cell_graph.specs.declared.cell.Cell.{Cell}
use Rattle.cell_graph.specs.Cells.{Cells, place_in, same_cell, with_cell}
use Rattle.cell_graph.specs.Shared.{IsShared}

same-refl : (c : Cell) → same_cell c c ≡ true
same-refl c = search (comparing, rules)

-- what passes nowhere in a list is no item of it
none-passes : (p : Cell → Bool) (i : ℕ) (cs : List Cell) (m : ℕ) (c : Cell) → position_from p i cs ≡ None → slice_get cs m ≡ Some c → p c ≡ false
none-passes p i [] m c none at = cc
none-passes p i (x ∷ cs) zero c none at = elim (cases_Bool (p x)) [
  | inl t ↦ let e = rw t at none in cc
  | inr f ↦ let e : x ≡ c = cc in ap p (sym e) ∙ f
]
none-passes p i (x ∷ cs) (suc n) c none at = elim (cases_Bool (p x)) [
  | inl t ↦ let e = rw t at none in cc
  | inr f ↦ none-passes p (i + 1) cs n c (rw f at none) at
]

absent : (cs : List Cell) (c : Cell) (m : ℕ) → place_in cs c ≡ None → slice_get cs m ≡ Some c → ⊥
absent cs c m none at =
    false≢true (sym (none-passes (same_cell c) 0 cs m c (sym (position_from-zero (same_cell c) cs) ∙ none) at) ∙ same-refl c)

-- a place of the longer list is one of the shorter, or the last
item-of : (cs : List Cell) (c d : Cell) (n : ℕ) → slice_get (cs ++ c ∷ []) n ≡ Some d → (slice_get cs n ≡ Some d) ⊎ ((n ≡ length cs) × (c ≡ d))
item-of [] c d zero e = inr (refl, (cc))
item-of [] c d (suc n) e = cc
item-of (x ∷ cs) c d zero e = inl e
item-of (x ∷ cs) c d (suc n) e = elim (item-of cs c d n e) [
  | inl f ↦ inl f
  | inr p ↦ inr (ap suc p.0, p.1)
]

pub none-shared : (g : Cells) → g.cells ≡ [] → IsShared g
none-shared g none m n c first second = let e : slice_get [] m ≡ Some c = ap (λ (cs : List Cell). slice_get cs m) (sym none) ∙ first in cc

-- items of the longer list that are equal have one place
one-place : (cs : List Cell) (c d : Cell) (m n : ℕ) → place_in cs c ≡ None → (slice_get cs m ≡ Some d → slice_get cs n ≡ Some d → m ≡ n)
    → (slice_get cs m ≡ Some d) ⊎ ((m ≡ length cs) × (c ≡ d)) → (slice_get cs n ≡ Some d) ⊎ ((n ≡ length cs) × (c ≡ d)) → m ≡ n
one-place cs c d m n new shared (inl there) (inl here) = shared there here
one-place cs c d m n new shared (inl there) (inr (at, same)) = absurd (absent cs c m new (there ∙ ap Some (sym same)))
one-place cs c d m n new shared (inr (at, same)) (inl here) = absurd (absent cs c n new (here ∙ ap Some (sym same)))
one-place cs c d m n new shared (inr (at, same)) (inr (to, _)) = at ∙ sym to

pub added-shared : (g h : Cells) (c : Cell) → IsShared g → h.cells ≡ with_cell g.cells c → IsShared h
added-shared g h c shared is = go (place_in g.cells c) refl
  where
    go : (o : Option ℕ) → place_in g.cells c ≡ o → IsShared h
    go (Some k) e m n d first second =
        let same : h.cells ≡ g.cells = is ∙ ap (λ (p : Option ℕ). cond (is_some p) g.cells (g.cells ++ c ∷ [])) e in
        shared m n d (ap (λ cs. slice_get cs m) (sym same) ∙ first) (ap (λ cs. slice_get cs n) (sym same) ∙ second)
    go None e m n d first second =
        let more : h.cells ≡ g.cells ++ c ∷ [] = is ∙ ap (λ (p : Option ℕ). cond (is_some p) g.cells (g.cells ++ c ∷ [])) e in
        one-place g.cells c d m n e (shared m n d) (item-of g.cells c d m (ap (λ cs. slice_get cs m) (sym more) ∙ first))
        (item-of g.cells c d n (ap (λ cs. slice_get cs n) (sym more) ∙ second))
