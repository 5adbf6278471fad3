-- The pieces of a sketch, as those of its design.
use Rattle.std.proofs.Common.{◌≡◌, inl, inr, ℕ, zero, suc, ◌+◌, ◌<◌, ◌≤◌, Bool, true, false, cond, ◌==◌, refl, sym, ap, subst, ◌∙◌, arith, List, [], ◌∷◌, Option, Some, None, slice_get, eqb-true, eq-eqb}
use Rattle.std.specs.Option.{option_map_or}
use Rattle.std.specs.List.{Contains}
use Rattle.std.proofs.lemmas.Option.{slice_get_within}
use Rattle.std.proofs.lemmas.List.Elements.{All-contains}
use Rattle.cdc_base.specs.declared.signal.Signal.{Signal}
use Rattle.cdc_base.specs.declared.signal.SigKind.{SigKind}
use Rattle.cdc_base.specs.declared.signal.SigKind.TheVariants.{Input, Register, Wire}
use Rattle.flat_meaning.specs.Trees.{Selects}
use Rattle.flat_meaning.specs.Pieces as meaning
use Rattle.flat_meaning.specs.Design.{Flat, size_in, kind_is_variable, is_variable}
use Rattle.flat_meaning.specs.SignalTrees.{pieces_of}
use Rattle.flat_meaning.specs.Sound.{IsSound}
use Rattle.flat_meaning.specs.Segments.{made_of}
use Rattle.flat_meaning.proofs.Words.{never_same}
use Rattle.flat_meaning.proofs.Placed.{within, from_within}
use Rattle.flat_reads.specs.Marks.{marked, marks}
use Rattle.flat_reads.specs.Filled.{IsDesignFilled}
use Rattle.flat_reads.specs.Laws.{has_bit}
use Rattle.flat_reads.proofs.Pieces.{design_reads}
use Rattle.driver_trees.specs.declared.draft.Draft.{Draft}
use Rattle.driver_trees.specs.declared.sketch.Piece.{Piece}
use Rattle.driver_trees.specs.declared.sketch.Sketch.{Sketch}
use Rattle.driver_trees.specs.Sketches.{piece_of, pieces_in, IsSketchOf}
use Rattle.driver_loops.specs.Leads.{is_wire_kind, is_wire_in}
use Rattle.driver_loops.proofs.Members.{nothing_in}
use Rattle.loop_law.proofs.Members.{contains_first, contains_later, contains_cases}
use Rattle.loop_law.proofs.Trees.{reads_at}

-- a bit of the piece
pub record HasBit (p : Piece) (i : ℕ) : Type 0 where
  pub low : p.at ≤ i
  pub high : i < p.at + p.width

-- ---- the pieces of one signal

in_signal : (sel : Selects) (ds : List Draft) (ps : List Piece) (k : ℕ) (p : Piece) (x : ℕ) → slice_get ps k ≡ Some p → p.sig ≡ x → Contains (pieces_in sel ds ps x) (piece_of sel ds p)
in_signal sel ds [] k p x h e = absurd (let l = slice_get_within [] k p h in omega arith)
in_signal sel ds (q ∷ qs) zero p x h e =
    let same : q ≡ p = cc in
    subst (λ (u : Bool). Contains (cond u (piece_of sel ds q ∷ pieces_in sel ds qs x) (pieces_in sel ds qs x)) (piece_of sel ds p)) (sym (eq-eqb q.sig x (ap (λ (r : Piece). r.sig) same ∙ e)))
    (subst (λ (r : Piece). Contains (piece_of sel ds q ∷ pieces_in sel ds qs x) (piece_of sel ds r)) same (contains_first (piece_of sel ds q) (pieces_in sel ds qs x)))
in_signal sel ds (q ∷ qs) (suc k) p x h e = go (q.sig == x) (in_signal sel ds qs k p x h e)
  where
    go : (u : Bool) → Contains (pieces_in sel ds qs x) (piece_of sel ds p) → Contains (cond u (piece_of sel ds q ∷ pieces_in sel ds qs x) (pieces_in sel ds qs x)) (piece_of sel ds p)
    go true r = contains_later (piece_of sel ds q) (piece_of sel ds p) (pieces_in sel ds qs x) r
    go false r = r

-- a piece of the signal, with its place
pub record IsPieceFor (sel : Selects) (ds : List Draft) (ps : List Piece) (x : ℕ) (m : meaning.Piece) : Type 0 where
  pub place : ℕ
  pub piece : Piece
  pub stands : slice_get ps place ≡ Some piece
  pub of_signal : piece.sig ≡ x
  pub same : piece_of sel ds piece ≡ m

from_signal : (sel : Selects) (ds : List Draft) (ps : List Piece) (x : ℕ) (m : meaning.Piece) → Contains (pieces_in sel ds ps x) m → IsPieceFor sel ds ps x m
from_signal sel ds [] x m h = absurd (nothing_in m h)
from_signal sel ds (q ∷ qs) x m h = go (q.sig == x) refl (from_signal sel ds qs x m) h
  where
    later : IsPieceFor sel ds qs x m → IsPieceFor sel ds (q ∷ qs) x m
    later r = record { place = suc r.place; piece = r.piece; stands = r.stands; of_signal = r.of_signal; same = r.same }

    go : (u : Bool) → (q.sig == x) ≡ u → (Contains (pieces_in sel ds qs x) m → IsPieceFor sel ds qs x m)
        → Contains (cond u (piece_of sel ds q ∷ pieces_in sel ds qs x) (pieces_in sel ds qs x)) m → IsPieceFor sel ds (q ∷ qs) x m
    go true e more h = elim (contains_cases (piece_of sel ds q) m (pieces_in sel ds qs x) h) [
      | inl same ↦ record { place = 0; piece = q; stands = refl; of_signal = eqb-true q.sig x e; same = same }
      | inr rest ↦ later (more rest)
    ]
    go false e more h = later (more h)

-- ---- wires

wire_kind : (k : SigKind) → kind_is_variable k ≡ false → is_wire_kind k ≡ true
wire_kind Input h = never_same h
wire_kind Register h = never_same h
wire_kind Wire h = refl

wire_signal : (o : Option Signal) → kind_is_variable (option_map_or (λ (s : Signal). s.kind) o Wire) ≡ false → 1 ≤ option_map_or (λ (s : Signal). s.width) o 0 → option_map_or (λ (s : Signal). is_wire_kind s.kind) o false ≡ true
wire_signal None h l = absurd (omega arith)
wire_signal (Some s) h l = wire_kind s.kind h

-- ---- a sketch of a sound design

module _ (f : Flat) (ds : List Draft) (k : Sketch) (sound : IsSound f) (filled : IsDesignFilled f) (is : IsSketchOf f ds k) where
  listed : (n : ℕ) (p : Piece) → slice_get k.pieces.items n ≡ Some p → Contains (pieces_of f marked p.sig) (piece_of marked ds p)
  listed n p h = subst (λ (ms : List meaning.Piece). Contains ms (piece_of marked ds p)) (is.pieces marked p.sig) (in_signal marked ds k.pieces.items n p p.sig h refl)

  -- a piece's tree reads what the segments of its bits are made of
  pub piece_reads : (n : ℕ) (p : Piece) → slice_get k.pieces.items n ≡ Some p → (i : ℕ) → HasBit p i → (t j : ℕ) → reads_at ds p.tree.0 t j ≡ made_of f p.sig i t j
  piece_reads n p h i has t j =
      All-contains (λ (m : meaning.Piece). (i t j : ℕ) → has_bit m i ≡ true → marks m.tree t j ≡ made_of f p.sig i t j) (pieces_of f marked p.sig) (piece_of marked ds p)
      (design_reads f sound filled p.sig).each (listed n p h) i t j (within p.at p.width i has.low has.high)

  pub piece_wire : (n : ℕ) (p : Piece) → slice_get k.pieces.items n ≡ Some p → is_wire_in f.signals p.sig ≡ true
  piece_wire n p h =
      let m = All-contains (λ (m : meaning.Piece). (is_variable f p.sig ≡ false) × (1 ≤ m.bits) × (m.at + m.bits ≤ size_in f p.sig)) (pieces_of f marked p.sig) (piece_of marked ds p)
      (design_reads f sound filled p.sig).of_wire (listed n p h) in
      let some = m.1 in let room = m.2 in
      wire_signal (slice_get f.signals p.sig) m.0 (omega arith)

  -- a bit that is made of some bit has a piece
  pub record IsBitPiece (x i : ℕ) : Type 0 where
    pub place : ℕ
    pub piece : Piece
    pub stands : slice_get k.pieces.items place ≡ Some piece
    pub of_signal : piece.sig ≡ x
    pub has : HasBit piece i

  pub bit_piece : (x i t j : ℕ) → made_of f x i t j ≡ true → IsBitPiece x i
  bit_piece x i t j h =
      let q = (design_reads f sound filled x).some i t j h in
      let r = from_signal marked ds k.pieces.items x q.0 (subst (λ (ms : List meaning.Piece). Contains ms q.0) (sym (is.pieces marked x)) q.1) in
      let b = from_within r.piece.at r.piece.width i (ap (λ (m : meaning.Piece). has_bit m i) r.same ∙ q.2) in
      record { place = r.place; piece = r.piece; stands = r.stands; of_signal = r.of_signal; has = record { low = b.0; high = b.1 } }
