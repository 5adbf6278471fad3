-- The table of places and the widths, where one more cell is added.
use Rattle.std.proofs.Common.{◌≡◌, ◌∙◌, sym, ap, ap₂, subst, refl, arith, rules, ℕ, ◌+◌, ◌<◌, ◌^◌, Bool, true, false, cond, List, [], ◌∷◌, ◌++◌, length, Option, Some, None, is_some, unwrap_or, slice_get, get_or, nat_lt, ltb-true, inl, inr, length-append}
use Rattle.std.specs.List.{position_from, position_or_len}
use Rattle.std.specs.Cmp.Rules.{comparing}
use Rattle.std.proofs.lemmas.Bool.{cases_Bool}
use Rattle.std.proofs.lemmas.List.{map-append, length-map}
use Rattle.std.proofs.lemmas.List.Sums.{passes_at_first}
use Rattle.std.proofs.lemmas.Option.{slice_get-get_or}
use Rattle.std.proofs.lemmas.Iterator.Adapters.{position_from-zero}
use Rattle.std.specs.HashMap as hash
use Rattle.std.specs.HashMap.{HashMap}
use Rattle.cdc_base.specs.declared.signal.Signal.{Signal}
use Rattle.cell_graph.specs.declared.cell.Cell.{Cell}
use Rattle.cell_graph.specs.declared.cell.Entry.{Entry}
use Rattle.cell_graph.specs.Cells.{same_cell, place_in, place_of, with_cell, in_order, widths, width_of}
use Rattle.cell_graph.specs.Kept.{IsKept, cells_of}

pub in_order-push : {A : Type 0} (f : List A → Cell → A) (before : List A) (cs : List Cell) (c : Cell)
    → in_order f before (cs ++ c ∷ []) ≡ in_order f before cs ++ f (in_order f before cs) c ∷ []
in_order-push f before [] c = refl
in_order-push f before (d ∷ cs) c = in_order-push f (before ++ f before d ∷ []) cs c

-- the first place stays where an item is added at the end; an item that is the first has the place at the end
position_from-keep : {X : Type 0} (p : X → Bool) (i k : ℕ) (xs : List X) (y : X) → position_from p i xs ≡ Some k → position_from p i (xs ++ y ∷ []) ≡ Some k
position_from-keep p i k [] y h = cc
position_from-keep p i k (x ∷ xs) y h = elim (cases_Bool (p x)) [
  | inl t ↦ rw t (rw t at h)
  | inr f ↦ rw f (position_from-keep p (i + 1) k xs y (rw f at h))
]

position_from-push : {X : Type 0} (p : X → Bool) (i n : ℕ) (xs : List X) (y : X) → n ≡ i + length xs → position_from p i xs ≡ None
    → position_from p i (xs ++ y ∷ []) ≡ cond (p y) (Some n) None
position_from-push p i n [] y e h = ap (λ k. cond (p y) (Some k) None) (let f : i ≡ n = omega arith in f)
position_from-push p i n (x ∷ xs) y e h = elim (cases_Bool (p x)) [
  | inl t ↦ let g = rw t at h in cc
  | inr f ↦ rw f (position_from-push p (i + 1) n xs y (omega arith) (rw f at h))
]

same_is_equal : (a b : Cell) → same_cell a b ≡ true → a ≡ b
same_is_equal a b h = search rules

same-refl : (a : Cell) → same_cell a a ≡ true
same-refl a = search (comparing, rules)

place_in-keep : (cs : List Cell) (c q : Cell) (k : ℕ) → place_in cs q ≡ Some k → place_in (cs ++ c ∷ []) q ≡ Some k
place_in-keep cs c q k h = position_from-zero (same_cell q) (cs ++ c ∷ []) ∙ position_from-keep (same_cell q) 0 k cs c (sym (position_from-zero (same_cell q) cs) ∙ h)

place_in-push : (cs : List Cell) (c q : Cell) (n : ℕ) → n ≡ length cs → place_in cs q ≡ None → place_in (cs ++ c ∷ []) q ≡ cond (same_cell q c) (Some n) None
place_in-push cs c q n e h =
    position_from-zero (same_cell q) (cs ++ c ∷ []) ∙ position_from-push (same_cell q) 0 n cs c (omega arith) (sym (position_from-zero (same_cell q) cs) ∙ h)

-- a different cell has the place that it had
place_in-other : (cs : List Cell) (c q : Cell) (o : Option ℕ) → same_cell c q ≡ false → place_in cs q ≡ o → place_in (cs ++ c ∷ []) q ≡ o
place_in-other cs c q (Some k) f h = place_in-keep cs c q k h
place_in-other cs c q None f h = place_in-push cs c q (length cs) refl h ∙ ap (λ b. cond b (Some (length cs)) None) (elim (cases_Bool (same_cell q c)) as (λ v. same_cell q c ≡ false) [
  | inl t ↦ let e = same_is_equal q c t in let g : same_cell c q ≡ true = rw e (same-refl c) in cc
  | inr g ↦ g
])

pub added : {S : Type 0} (signals : List Signal) (es : List Entry) (old new : HashMap Cell ℕ S) (calls n : ℕ) (e : Entry)
    → IsKept signals es old calls → n ≡ length es → calls < 2 ^ 24 → e.width ≡ width_of signals (widths signals (cells_of es)) e.cell
    → place_in (cells_of es) e.cell ≡ None
    → ((q : Cell) → hash.get same_cell new q ≡ cond (same_cell e.cell q) (Some n) (hash.get same_cell old q))
    → IsKept signals (es ++ e ∷ []) new (calls + 1)
added signals es old new calls n e kept at room wide fresh after = record {
  widths_are = map-append (λ (x : Entry). x.width) es (e ∷ []) ∙ ap₂ (λ ws w. ws ++ w ∷ []) kept.widths_are wide
      ∙ sym (in_order-push (width_of signals) [] (cells_of es) e.cell) ∙ ap (widths signals) (sym cells_are);
  placed = λ q. subst (λ cs. hash.get same_cell new q ≡ place_in cs q) (sym cells_are) (elim (cases_Bool (same_cell e.cell q)) [
    | inl t ↦ subst (λ x. hash.get same_cell new x ≡ place_in (cells_of es ++ e.cell ∷ []) x) (same_is_equal e.cell q t) own
    | inr f ↦ after q ∙ ap (λ b. cond b (Some n) (hash.get same_cell old q)) f ∙ sym (place_in-other (cells_of es) e.cell q (hash.get same_cell old q) f (sym (kept.placed q)))
  ]);
  counted = let l = length-append es (e ∷ []) in let k = kept.counted in omega arith;
  limited = omega arith;
}
  where
    cells_are : cells_of (es ++ e ∷ []) ≡ cells_of es ++ e.cell ∷ []
    cells_are = map-append (λ (x : Entry). x.cell) es (e ∷ [])

    own : hash.get same_cell new e.cell ≡ place_in (cells_of es ++ e.cell ∷ []) e.cell
    own = after e.cell ∙ ap (λ b. cond b (Some n) (hash.get same_cell old e.cell)) (same-refl e.cell)
        ∙ sym (place_in-push (cells_of es) e.cell e.cell n (at ∙ sym (length-map es (λ (x : Entry). x.cell))) fresh ∙ ap (λ b. cond b (Some n) None) (same-refl e.cell))

-- the place of a cell has the cell, also once it is added
pub place_in-get : (cs : List Cell) (q : Cell) (k : ℕ) → place_in cs q ≡ Some k → slice_get cs k ≡ Some q
place_in-get cs q k h = elim (cases_Bool (nat_lt (position_or_len (same_cell q) cs) (length cs))) [
  | inl t ↦
      let m : ℕ = position_or_len (same_cell q) cs in
      let lt : position_or_len (same_cell q) cs < length cs = ltb-true (position_or_len (same_cell q) cs) (length cs) t in
      let e : Some (position_or_len (same_cell q) cs) ≡ Some k = rw t at h in
      let is : position_or_len (same_cell q) cs ≡ k = cc in
      let same = same_is_equal q (get_or cs (position_or_len (same_cell q) cs) q) (passes_at_first (same_cell q) cs q lt) in
      ap (slice_get cs) (sym is) ∙ slice_get-get_or cs (position_or_len (same_cell q) cs) q lt ∙ ap Some (sym same)
  | inr f ↦ let e : None ≡ Some k = rw f at h in cc
]

pub slice_get-push : (cs : List Cell) (c : Cell) → slice_get (cs ++ c ∷ []) (length cs) ≡ Some c
slice_get-push [] c = refl
slice_get-push (d ∷ cs) c = slice_get-push cs c

pub with_cell-get : (cs : List Cell) (c : Cell) → slice_get (with_cell cs c) (place_of cs c) ≡ Some c
with_cell-get cs c = by (place_in cs c) refl
  where
    by : (o : Option ℕ) → place_in cs c ≡ o → slice_get (cond (is_some o) cs (cs ++ c ∷ [])) (unwrap_or o (length cs)) ≡ Some c
    by None e = slice_get-push cs c
    by (Some k) e = place_in-get cs c k e
