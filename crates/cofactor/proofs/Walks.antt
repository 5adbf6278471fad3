-- What a walk finds, by the bits that it was asked for.
use Rattle.std.proofs.Common.{◌≡◌, ◌∙◌, ◌⊎◌, inl, inr, sym, ap, ap₂, subst, refl, arith, ℕ, ◌+◌, ◌-◌, ◌^◌, ◌<◌, ◌≤◌, min, Bool, true, false, ◌&&◌, not, cond, nat_lt, length, List, Option, Some, None, is_some, slice_get, ltb-true, ltb-false, lt-ltb}
use Rattle.std.specs.Prelude.{bit_and, OnOk}
use Rattle.std.proofs.Common.{Result, Ok, Err}
use Rattle.std.proofs.lemmas.Nat.{and_le_l, and_le_r}
use Rattle.std.specs.List.{Contains}
use Rattle.cdc_base.specs.declared.bit.Bit.{Bit}
use Rattle.cell_graph.specs.declared.cell.CellId.{CellId}
use Rattle.cell_graph.specs.Below.{IsOperand}
use Rattle.cell_graph.specs.Cells.{Cells, cell_at, cell_width}
use Rattle.cell_graph.specs.Cofactor.{known, same, reads}
use Rattle.cell_graph.specs.Reading.{Cube}
use Rattle.cell_graph.specs.Tree.{bit_at}
use Rattle.cell_graph.specs.Unfolded.{IsWellFormed, tree_of}
use Rattle.cell_graph.proofs.Bits.{bit_eq-true, bit_eq-refl}
use Rattle.cell_graph.proofs.CellValues.{width-64}
use Rattle.cell_graph.proofs.Trees.{width-tree_of}
use Rattle.cell_graph.proofs.Words.{bit_and-bit, bit-zero, bit-ones, bit-not, has-64}
use Rattle.cofactor.specs.declared.table.Row.{Row}
use Rattle.cofactor.specs.declared.walk.Wanted.{Wanted}
use Rattle.cofactor.specs.Made.{IsMadeOf}
use Rattle.cofactor.specs.Shown.{Shown, row_at, same_in, IsSame, HasPlace, Shows}
use Rattle.cofactor.specs.Walked.{Walked, IsAsked, AreMakers, LeadsOn, IsReadBy, is_sought, IsRead}
use Rattle.cofactor.proofs.Shown.{known-of}
use Rattle.cofactor.proofs.ReadBits.{reads-known, reads-same, reads-made, made-reads, made-operand}

pub and-true : (x y : Bool) → (x && y) ≡ true → (x ≡ true) × (y ≡ true)
and-true true y h = (refl, h)
and-true false y h = absurd (cc)

pub both-true : (x y : Bool) → x ≡ true → y ≡ true → (x && y) ≡ true
both-true true y e f = f
both-true false y e f = e

not-true : (x : Bool) → not x ≡ true → x ≡ false
not-true true h = absurd (cc)
not-true false h = refl

-- a bit of a word that is kept where another has ones
pub and-parts : (u v i : ℕ) → bit_at (bit_and u v) i ≡ true → (bit_at u i ≡ true) × (bit_at v i ≡ true)
and-parts u v i h = and-true (bit_at u i) (bit_at v i) (sym (bit_and-bit u v i) ∙ h)

pub and-whole : (u v i : ℕ) → bit_at u i ≡ true → bit_at v i ≡ true → bit_at (bit_and u v) i ≡ true
and-whole u v i e f = bit_and-bit u v i ∙ both-true (bit_at u i) (bit_at v i) e f

module _ (g : Cells) (well : IsWellFormed g) (cube : Cube) (t : Shown) (id : CellId) (lt : id.0 < length g.cells) (shows : Shows g cube t id)
    (operands : (a : CellId) → IsOperand (cell_at g id) a → HasPlace t a) (bits w m unknown rest : ℕ) (wide : w ≡ cell_width g id) (ones : m ≡ 2 ^ min w 64 - 1)
    (row : Row) (row-is : row ≡ row_at t id) (ones-small : m < 2 ^ 64)
    (unknown-is : unknown ≡ bit_and (bit_and bits (2 ^ 64 - 1 - row.masks.known)) m) (rest-is : rest ≡ bit_and unknown (2 ^ 64 - 1 - bit_and unknown row.same)) where
  abbrev K : ℕ → Option Bool
  K = known cube (tree_of g id)

  abbrev S : ℕ → Option Bit
  S = same cube (tree_of g id)

  w-64 : cell_width g id ≤ 64
  w-64 = let l = width-64 g well id in let e = width-tree_of g id in omega arith

  mask-bit : (i : ℕ) → bit_at m i ≡ nat_lt i (min w 64)
  mask-bit i = ap (λ n. bit_at n i) ones ∙ bit-ones (min w 64) i

  known-bit : (i : ℕ) → i < cell_width g id → bit_at row.masks.known i ≡ is_some (K i)
  known-bit i l = ap (λ (r : Row). bit_at r.masks.known i) row-is ∙ (known-of (row_at t id).masks K (cell_width g id) shows.masks).each i l

  known-small : row.masks.known < 2 ^ 64
  known-small =
      let h = has-64 (known-of (row_at t id).masks K (cell_width g id) shows.masks) w-64 in
      subst (λ (r : Row). r.masks.known < 2 ^ 64) (sym row-is) h

  told : (i : ℕ) → i < cell_width g id → IsSame (bit_at row.same i) (slice_get t.sames (row.start + i)) (S i)
  told i l = subst (λ (r : Row). IsSame (bit_at r.same i) (slice_get t.sames (r.start + i)) (S i)) (sym row-is) (shows.sames i l)

  -- the bits that aren't known
  some-none : (o : Option Bool) → is_some o ≡ false → o ≡ None
  some-none None h = refl
  some-none (Some v) h = absurd (cc)

  is-unknown : (i : ℕ) → bit_at bits i ≡ true → i < cell_width g id → K i ≡ None → bit_at unknown i ≡ true
  is-unknown i set l none =
      let k = w-64 in
      let n = bit-not row.masks.known i known-small (omega arith) ∙ ap not (known-bit i l ∙ ap is_some none) in
      ap (λ v. bit_at v i) unknown-is
      ∙ and-whole (bit_and bits (2 ^ 64 - 1 - row.masks.known)) m i (and-whole bits (2 ^ 64 - 1 - row.masks.known) i set n) (mask-bit i ∙ lt-ltb i (min w 64) (omega arith))

  from-unknown : (i : ℕ) → bit_at unknown i ≡ true → (bit_at bits i ≡ true) × (i < cell_width g id) × (K i ≡ None)
  from-unknown i set =
      let p = and-parts (bit_and bits (2 ^ 64 - 1 - row.masks.known)) m i (sym (ap (λ v. bit_at v i) unknown-is) ∙ set) in
      let q = and-parts bits (2 ^ 64 - 1 - row.masks.known) i p.0 in
      let s = ltb-true i (min w 64) (sym (mask-bit i) ∙ p.1) in
      let l : i < cell_width g id = omega arith in
      let k = w-64 in
      (q.0, l, some-none (K i) (sym (known-bit i l) ∙ not-true (bit_at row.masks.known i) (sym (bit-not row.masks.known i known-small (omega arith)) ∙ q.1)))

  -- those of them that equal no state bit
  same-small : bit_and unknown row.same < 2 ^ 64
  same-small =
      let p = and_le_l unknown row.same in
      let q = and_le_r (bit_and bits (2 ^ 64 - 1 - row.masks.known)) m in
      let e = unknown-is in
      let h = ones-small in
      omega arith

  is-rest : (i : ℕ) → bit_at unknown i ≡ true → i < cell_width g id → bit_at row.same i ≡ false → bit_at rest i ≡ true
  is-rest i set l none = let k = w-64 in
      ap (λ v. bit_at v i) rest-is
      ∙ and-whole unknown (2 ^ 64 - 1 - bit_and unknown row.same) i set (bit-not (bit_and unknown row.same) i same-small (omega arith) ∙ ap not (bit_and-bit unknown row.same i ∙ ap₂ (λ x y. x && y) set none))

  not-same : (x : Bool) → (true && x) ≡ false → x ≡ false
  not-same x h = h

  same-none : (b : Bool) (there o : Option Bit) → IsSame b there o → b ≡ false → o ≡ None
  same-none b there None h e = refl
  same-none b there (Some a) h e = let k = h.0 in absurd (cc)

  from-rest : (i : ℕ) → bit_at rest i ≡ true → (bit_at bits i ≡ true) × (i < cell_width g id) × (K i ≡ None) × (S i ≡ None)
  from-rest i set =
      let p = and-parts unknown (2 ^ 64 - 1 - bit_and unknown row.same) i (sym (ap (λ v. bit_at v i) rest-is) ∙ set) in
      let q = from-unknown i p.0 in
      let l = q.1 in
      let k = w-64 in (
        q.0,
        q.1,
        q.2,
        same-none (bit_at row.same i) (slice_get t.sames (row.start + i)) (S i) (told i q.1)
            (not-same (bit_at row.same i) (ap (λ x. x && bit_at row.same i) (sym p.0) ∙ sym (bit_and-bit unknown row.same i)
            ∙ not-true (bit_at (bit_and unknown row.same) i) (sym (bit-not (bit_and unknown row.same) i same-small (omega arith)) ∙ p.1))),
      )

  module _ (marks : List (Option ℕ)) (old new : Walked)
      (there : (i : ℕ) (b : Bit) → i < w → is_sought marks b ≡ true → bit_at (bit_and unknown row.same) i ≡ true → same_in t row i ≡ Some b → Contains new.found b)
      (only : (b : Bit) → Contains new.found b → Contains old.found b ⊎ ((i : ℕ) × (bit_at (bit_and unknown row.same) i ≡ true) × (same_in t row i ≡ Some b)))
      (sought : (b : Bit) → Contains new.found b → Contains old.found b ⊎ (is_sought marks b ≡ true))
      (kept : (b : Bit) → Contains old.found b → Contains new.found b)
      (asked : (i j : ℕ) (x : CellId) → bit_at rest i ≡ true → IsMadeOf g cube (cell_at g id) i x j → j < cell_width g x → HasPlace t x → IsAsked t new.wanted x j)
      (made : (v : Wanted) → Contains new.wanted v → Contains old.wanted v ⊎ AreMakers g cube t (cell_at g id) rest v) where
    by-same : (i : ℕ) → bit_at unknown i ≡ true → i < cell_width g id → (b : Bit) → is_sought marks b ≡ true → reads cube (tree_of g id) i b ≡ true → K i ≡ None → (o : Option Bit) → S i ≡ o
        → IsSame (bit_at row.same i) (slice_get t.sames (row.start + i)) o → LeadsOn g cube t id new b
    by-same i set l b q h k None s is =
        let r = reads-made g well cube id lt i l k s b h in
        inr (
          r.0,
          r.1,
          made-operand g cube (cell_at g id) i r.0 r.1 r.2,
          r.3,
          asked i r.1 r.0 (is-rest i set l is) r.2 r.3 (operands r.0 (made-operand g cube (cell_at g id) i r.0 r.1 r.2)),
          r.4,
        )
    by-same i set l b q h k (Some a) s is =
        let e = bit_eq-true a b (sym (reads-same cube (tree_of g id) i b a s) ∙ h) in
        inl (there i b (omega arith) q (and-whole unknown row.same i set is.0) (ap (λ c. cond c (slice_get t.sames (row.start + i)) None) is.0 ∙ is.1 ∙ ap Some e))

    by-known : (i : ℕ) → bit_at bits i ≡ true → i < cell_width g id → (b : Bit) → is_sought marks b ≡ true → reads cube (tree_of g id) i b ≡ true → (o : Option Bool) → K i ≡ o → LeadsOn g cube t id new b
    by-known i set l b q h None k = by-same i (is-unknown i set l k) l b q h k (S i) refl (told i l)
    by-known i set l b q h (Some v) k = let z = reads-known cube (tree_of g id) i b v k in absurd (cc)

    found-by : (i : ℕ) (b : Bit) → bit_at (bit_and unknown row.same) i ≡ true → same_in t row i ≡ Some b → IsReadBy g cube id bits b
    found-by i b set is =
        let p = and-parts unknown row.same i set in
        let q = from-unknown i p.0 in
        let s = sym (ap (λ c. cond c (slice_get t.sames (row.start + i)) None) p.1) ∙ is in
        (i, q.0, q.1, reads-same cube (tree_of g id) i b b (same-there (bit_at row.same i) (slice_get t.sames (row.start + i)) (S i) b p.1 s (told i q.1)) ∙ bit_eq-refl b)
      where
        same-there : (c : Bool) (at o : Option Bit) (b : Bit) → c ≡ true → at ≡ Some b → IsSame c at o → o ≡ Some b
        same-there c at None b e f h = absurd (cc)
        same-there c at (Some a) b e f h = sym h.1 ∙ f

    pub is-read : IsRead g cube t marks id bits old new
    is-read = record {
      all = λ b q h. by-known h.0 h.1 h.2 b q h.3 (K h.0) refl;
      wanted = λ v h. elim (made v h) [
        | inl k ↦ inl k
        | inr k ↦ inr (
          k.0,
          k.1,
          k.2,
          λ j set l b r.
              let i = k.3 j set l in
              let q = from-rest i.0 i.1 in
              (i.0, q.0, q.1, made-reads g well cube id lt i.0 q.2 q.3 k.0 j i.2 l b r),
        )
      ];
      found = λ b h. elim (only b h) [ inl k ↦ inl k | inr k ↦ inr (found-by k.0 b k.1 k.2) ];
      sought = sought;
      kept = kept;
    }

-- one more bit of a row was looked at
pub found-more : (t : Shown) (row : Row) (bits at : ℕ) (old new : List Bit) (b : Bit) → (Contains old b → Contains new b)
    → (bit_at bits at ≡ true → same_in t row at ≡ Some b → Contains new b)
    → ((i : ℕ) → i < at → bit_at bits i ≡ true → same_in t row i ≡ Some b → Contains old b)
    → (i : ℕ) → i < at + 1 → bit_at bits i ≡ true → same_in t row i ≡ Some b → Contains new b
found-more t row bits at old new b kept here before i lt set is = go (nat_lt i at) refl
  where
    go : (c : Bool) → nat_lt i at ≡ c → Contains new b
    go true e = kept (before i (ltb-true i at e) set is)
    go false e =
        let l = ltb-false i at e in
        let s : i ≡ at = omega arith in
        here (sym (ap (bit_at bits) s) ∙ set) (sym (ap (same_in t row) s) ∙ is)

pub only-more : {M O : Type 0} (t : Shown) (row : Row) (bits at : ℕ) (b : Bit) → (M → O ⊎ ((i : ℕ) × (bit_at bits i ≡ true) × (same_in t row i ≡ Some b)))
    → M ⊎ ((bit_at bits at ≡ true) × (same_in t row at ≡ Some b)) → O ⊎ ((i : ℕ) × (bit_at bits i ≡ true) × (same_in t row i ≡ Some b))
only-more t row bits at b f (inl m) = f m
only-more t row bits at b f (inr h) = inr (at, h.0, h.1)

-- ---- the words of one cell

pub no-bits : {P : Type 0} (v i : ℕ) → v ≡ 0 → bit_at v i ≡ true → P
no-bits v i e h = let z = sym (ap (λ n. bit_at n i) e) ∙ h in let y = bit-zero i in absurd (cc)

pub rest-small : (a m v : ℕ) → m < 2 ^ 64 → bit_and (bit_and a m) v < 2 ^ 64
rest-small a m v h = let p = and_le_l (bit_and a m) v in let q = and_le_r a m in omega arith

pub three_ok : {T E : Type 0} {P Q R S : Type 0} (r : Result T E) → (P → Q → R → S) → OnOk r P → OnOk r Q → OnOk r R → OnOk r S
three_ok (Ok t) f p q r = f p q r
three_ok (Err e) f p q r = tt
