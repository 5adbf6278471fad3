-- A first state keeps each FIFO: all its numbers are 0.
use Rattle.std.proofs.Common.{◌≡◌, ℕ, zero, suc, ◌-◌, Bool, true, false, not, Some, List, [], ◌∷◌, map, length, refl, sym, ap, ap₂, ◌∙◌, arith, pow_pos}
use Rattle.std.specs.List.{AllByRecursion}
use Rattle.cdc_base.specs.declared.bit.Bit.{Bit}
use Rattle.cell_graph.specs.Tree.{Tree}
use Rattle.cdc_model.specs.declared.scheme.GrayReg.{GrayReg}
use Rattle.cdc_model.specs.Design.{Design, bits_from, word}
use Rattle.cdc_model.specs.Gray.{gray_code}
use Rattle.cdc_model.specs.Runs.{State, IsFirst}
use Rattle.cdc_model.specs.Schemes.{Trees, Sync, flops}
use Rattle.fifo_terms.specs.Counts.{binary}
use Rattle.fifo_laws.specs.Fifos.{Fifo, IsFifo, AreFifos, nth_flop, flop_words, flop_count}
use Rattle.fifo_laws.specs.Keeps.{Keeps, KeepsAll, HoldCodes}
use Rattle.fifo_laws.specs.Laws.{AreLists}
use Rattle.fifo_laws.specs.Sides.{Side, IsSide, StartAtZero, side_width}
use Rattle.fifo_laws.proofs.Flops.{stage}
use Rattle.fifo_laws.proofs.Pairs.{are_held}
use Rattle.fifo_laws.proofs.Rounds.{zeros, zeros_fall}
use Rattle.fifo_laws.proofs.Sides.{gray_reg, AreOver, are_over}
use Rattle.fifo_laws.proofs.StepSide.{Holds}

abbrev pub falses : ℕ → List Bool
falses zero = []
falses (suc w) = false ∷ falses w

zero_word : (w : ℕ) → binary w 0 ≡ falses w
zero_word zero = refl
zero_word (suc w) = ap (λ xs. false ∷ xs) (zero_word w)

zero_code : (w : ℕ) → gray_code (falses w) ≡ falses w
zero_code zero = refl
zero_code (suc zero) = refl
zero_code (suc (suc w)) = ap (λ xs. false ∷ xs) (zero_code (suc w))

module _ (d : Design) (s : State) (first : IsFirst d s) where
  start_bits : (bits : List Bit) (w : ℕ) → length bits ≡ w → StartAtZero d bits → map s.values bits ≡ falses w
  start_bits [] zero e all = refl
  start_bits [] (suc w) e all = absurd (omega (arith, e))
  start_bits (b ∷ bs) zero e all = absurd (omega (arith, e))
  start_bits (b ∷ bs) (suc w) e all = ap₂ (λ x xs. x ∷ xs) (first.start b false all.0) (start_bits bs w (omega (arith, e)) all.1)

  bits_length : (sig i n : ℕ) → length (bits_from sig i n) ≡ n
  bits_length sig i zero = refl
  bits_length sig i (suc n) = ap (λ k. suc k) (bits_length sig (suc i) n)

  nth_start : (j : ℕ) (f : Bit) (gs : List Bit) → StartAtZero d (f ∷ gs) → d.start (nth_flop j f gs) ≡ Some false
  nth_start zero f gs all = all.0
  nth_start (suc j) f [] all = all.0
  nth_start (suc j) f (g ∷ gs) all = nth_start j g gs all.1

  stage_start : (j : ℕ) (ys : List Sync) → AllByRecursion (λ y. StartAtZero d (flops y)) ys → StartAtZero d (stage ys j)
  stage_start j [] all = tt
  stage_start j (y ∷ ys) all = (nth_start j y.first y.more all.0, stage_start j ys all.1)

  stage_length : (j : ℕ) (ys : List Sync) → length (stage ys j) ≡ length ys
  stage_length j [] = refl
  stage_length j (y ∷ ys) = ap (λ k. suc k) (stage_length j ys)

  over_length : (syncs : List Sync) (c : ℕ) (bs : List Bit) (ys : List Sync) → AreOver d syncs c bs ys → length ys ≡ length bs
  over_length syncs c [] [] h = refl
  over_length syncs c [] (y ∷ ys) h = absurd h
  over_length syncs c (b ∷ bs) [] h = absurd h
  over_length syncs c (b ∷ bs) (y ∷ ys) h = ap (λ k. suc k) (over_length syncs c bs ys h.1)

  codes_start : (w : ℕ) (ys : List Sync) → length ys ≡ w → AllByRecursion (λ y. StartAtZero d (flops y)) ys → (j n : ℕ) → HoldCodes s.values w (flop_words ys j n) (zeros n)
  codes_start w ys e all j zero = tt
  codes_start w ys e all j (suc n) = (
    start_bits (stage ys j) w (stage_length j ys ∙ e) (stage_start j ys all) ∙ sym (zero_code w) ∙ ap gray_code (sym (zero_word w)),
    codes_start w ys e all (suc j) n,
  )

  module _ (tree : ℕ → Tree) (t : Trees) (syncs : List Sync) (grays : List GrayReg) (lists : AreLists d tree t syncs grays) where
    side_start : (to : ℕ) (y : Side) → IsSide d tree syncs grays to y → Holds d y s.values 0 0 (zeros (flop_count y.over))
    side_start to y side = record {
      count = start_bits (word d y.reg.count) (side_width d y) (bits_length y.reg.count 0 (side_width d y)) side.start.0 ∙ sym (zero_word (side_width d y));
      code = start_bits (word d y.reg.gray) (side_width d y) (bits_length y.reg.gray 0 (d.width y.reg.gray) ∙ alike) side.start.1 ∙ sym (zero_code (side_width d y)) ∙ ap gray_code (sym (zero_word (side_width d y)));
      flops = codes_start (side_width d y) y.over (over_length syncs to (word d y.reg.gray) y.over (are_over d tree t syncs grays lists to y side) ∙ bits_length y.reg.gray 0 (d.width y.reg.gray) ∙ alike) side.start.2 0 (flop_count y.over);
    }
      where
        alike : d.width y.reg.gray ≡ side_width d y
        alike = (gray_reg d tree t syncs grays lists to y side).width.2

    start_kept : (f : Fifo) (fifo : IsFifo d tree syncs grays f) → Keeps d tree fifo.write fifo.read f s
    start_kept f fifo = record {
      numbers = record { wb = 0; wg = 0; there = zeros (flop_count fifo.write.over); rb = 0; rg = 0; back = zeros (flop_count fifo.read.over) };
      held = are_held d tree t syncs grays lists f fifo s.values 0 0 0 0 (zeros (flop_count fifo.write.over)) (zeros (flop_count fifo.read.over))
          (side_start fifo.read.clock fifo.write fifo.writes) (side_start fifo.write.clock fifo.read fifo.reads);
      write_code = omega arith;
      there = zeros_fall (flop_count fifo.write.over);
      read_code = omega arith;
      back = zeros_fall (flop_count fifo.read.over);
      room = omega arith;
      full = λ b u flag h. omega (arith, fifo.deep, pow_pos (f.width - 1));
      empty = λ b u flag h. blocked u (s.values b) h (first.start b (not u) flag.1);
    }
      where
        blocked : {A : Type 0} (u v : Bool) → v ≡ u → v ≡ not u → A
        blocked true true e h = cc
        blocked true false e h = cc
        blocked false true e h = cc
        blocked false false e h = cc

    pub all_start : (fifos : List Fifo) → AreFifos d tree syncs grays fifos → KeepsAll d tree syncs grays fifos s
    all_start fifos are f i k = start_kept f k
