-- A bit reads b where its table and what feeds it show so.
use Rattle.std.proofs.Common.{◌≡◌, ◌∙◌, sym, ap, ap₂, subst, refl, arith, ℕ, ◌+◌, ◌<◌, ◌≤◌, ◌≢◌, Bool, true, false, cond, nat_lt, ltb-true, ltb-false, Option, Some, None, is_some, List, [], length, slice_get}
use Rattle.std.specs.Option.{option_map_or}
use Rattle.std.specs.Bool.{one_answer}
use Rattle.cdc_base.specs.declared.bit.Bit.{Bit}
use Rattle.cell_graph.specs.declared.cell.CellId.{CellId}
use Rattle.cell_graph.specs.Below.{IsOperand, IsClosed, AreIn, AreAscending}
use Rattle.cell_graph.specs.Cells.{Cells, cell_at, cell_width}
use Rattle.cell_graph.specs.Cofactor.{known, same, reads}
use Rattle.cell_graph.specs.Feeds.{node}
use Rattle.cell_graph.specs.Reading.{bit_eq}
use Rattle.cell_graph.specs.Tree.{bit_at, number}
use Rattle.cell_graph.specs.Unfolded.{IsWellFormed, tree_of}
use Rattle.cell_graph.proofs.Cones.{cell-there, operand-before, contains_get, get_contains}
use Rattle.cell_graph.proofs.Words.{bit-number, bit-within, number-lt}
use Rattle.cofactor.specs.Shown.{Shown, masks_at, Shows}
use Rattle.cofactor.proofs.Arms.{small-width}
use Rattle.cofactor.proofs.ReadBits.{reads-known, reads-same, reads-made, made-reads}
use Rattle.cofactor.proofs.SameRows.{same-shown}
use Rattle.cofactor.proofs.Shown.{known-of}
use Rattle.crossings.specs.Readings.{word_at, IsReading, AreReadings, AreFed, reads_shown}

module _ (g : Cells) (well : IsWellFormed g) (t : Shown) (id : CellId) (lt : id.0 < length g.cells) (shown : Shows g [] t id) (b : Bit) (fed : ℕ) (is : AreFed g b (cell_at g id) fed) (ones : ℕ) (masked : ones ≡ (masks_at t id).known) where
  pub shown-reads : (i : ℕ) → i < cell_width g id → reads_shown t b ones fed (node id i) ≡ reads [] (tree_of g id) i b
  shown-reads i l =
      ap₂ (λ k s. cond k false (option_map_or (λ a. bit_eq a b) s (bit_at fed i)))
      (ap (λ m. bit_at m i) masked ∙ (known-of (masks_at t id) (known [] (tree_of g id)) (cell_width g id) shown.masks).each i l) (same-shown g [] t id shown.sames i l)
      ∙ go (known [] (tree_of g id) i) (same [] (tree_of g id) i) refl refl
    where
      go : (o : Option Bool) (s : Option Bit) → known [] (tree_of g id) i ≡ o → same [] (tree_of g id) i ≡ s
          → cond (is_some o) false (option_map_or (λ a. bit_eq a b) s (bit_at fed i)) ≡ reads [] (tree_of g id) i b
      go (Some v) s k e = sym (reads-known [] (tree_of g id) i b v k)
      go None (Some a) k e = sym (reads-same [] (tree_of g id) i b a e)
      go None None k e =
          let small = small-width g well id in
          one_answer (bit_at fed i) (reads [] (tree_of g id) i b) (is i (omega arith))
          (reads-made g well [] id lt i l k e b, λ m. made-reads g well [] id lt i k e m.0 m.1 m.2 m.3 b m.4)

  -- the word of all these bits
  pub word-reads : (n word : ℕ) → n ≡ cell_width g id → word ≡ number (λ i. reads_shown t b ones fed (node id i)) n → IsReading g b id word
  word-reads n word e f i = (
    λ s.
        let set = sym (ap (λ v. bit_at v i) f) ∙ s in
        let l : i < n = bit-within (number (λ i. reads_shown t b ones fed (node id i)) n) n i (number-lt (λ i. reads_shown t b ones fed (node id i)) n) set in
        let w : i < cell_width g id = omega arith in
        (w, sym (shown-reads i w) ∙ sym (bit-number (λ i. reads_shown t b ones fed (node id i)) n i l) ∙ set),
    λ p. ap (λ v. bit_at v i) f ∙ bit-number (λ i. reads_shown t b ones fed (node id i)) n i (let l = p.0 in omega arith) ∙ shown-reads i p.0 ∙ p.1,
  )

-- ---- cell by cell

module _ (g : Cells) (well : IsWellFormed g) (cells : List CellId) (closed : IsClosed g cells) (ascend : AreAscending cells) (within : AreIn g cells) where
  -- an operand stands before its cell
  operand-place : (k : ℕ) (c a : CellId) → slice_get cells k ≡ Some c → IsOperand (cell_at g c) a → (j : ℕ) × (j < k) × (slice_get cells j ≡ Some a)
  operand-place k c a at op =
      let there = contains_get cells k c at in
      let before = operand-before g c.0 (cell_at g c) (well.cells c.0 (cell_at g c) (cell-there g c (within c there))) a op in
      let p = get_contains cells a (closed c a there op) in
      (p.0, go p.0 p.2 before (nat_lt p.0 k) refl (nat_lt k p.0) refl, p.2)
    where
      go : (j : ℕ) → slice_get cells j ≡ Some a → a.0 < c.0 → (u : Bool) → nat_lt j k ≡ u → (v : Bool) → nat_lt k j ≡ v → j < k
      go j e before true l v m = ltb-true j k l
      go j e before false l true m = let later = ascend k j c a (ltb-true k j m) at e in absurd (omega arith)
      go j e before false l false m =
          let same : j ≡ k = omega (arith, ltb-false j k l, ltb-false k j m) in
          let one : Some a ≡ Some c = sym e ∙ ap (slice_get cells) same ∙ at in
          let is : a ≡ c = cc in
          let equal = ap (λ (x : CellId). x.0) is in
          absurd (omega arith)

  -- the words of the cells before a place
  abbrev pub AreReadTo : Bit → List ℕ → ℕ → Type 0
  AreReadTo b words k = (j : ℕ) (c : CellId) → j < k → slice_get cells j ≡ Some c → IsReading g b c (word_at words c)

  pub operands-read : (b : Bit) (words : List ℕ) (k : ℕ) (c : CellId) → slice_get cells k ≡ Some c → AreReadTo b words k → (a : CellId) → IsOperand (cell_at g c) a → IsReading g b a (word_at words a)
  operands-read b words k c at read a op = let p = operand-place k c a at op in read p.0 a p.1 p.2

  -- one word more
  pub read-more : (b : Bit) (old new : List ℕ) (k : ℕ) (c : CellId) → slice_get cells k ≡ Some c → IsReading g b c (word_at new c) → ((a : CellId) → a.0 ≢ c.0 → word_at new a ≡ word_at old a)
      → AreReadTo b old k → AreReadTo b new (k + 1)
  read-more b old new k c at here others read j a l e = go (nat_lt j k) refl
    where
      go : (u : Bool) → nat_lt j k ≡ u → IsReading g b a (word_at new a)
      go true m =
          let before = ascend j k a c (ltb-true j k m) e at in
          subst (IsReading g b a) (sym (others a (λ same. omega arith))) (read j a (ltb-true j k m) e)
      go false m =
          let same : j ≡ k = omega (arith, ltb-false j k m) in
          let one : Some a ≡ Some c = sym e ∙ ap (slice_get cells) same ∙ at in
          let is : c ≡ a = cc in
          subst (λ x. IsReading g b x (word_at new x)) is here

  pub read-all : (b : Bit) (words : List ℕ) (k : ℕ) → length cells ≤ k → AreReadTo b words k → AreReadings g b words cells
  read-all b words k past read c h = let p = get_contains cells c h in read p.0 c (let l = p.1 in omega arith) p.2
