-- Words of 1 to 64 bits.
use Rattle.std.specs.Prelude.{ℕ, ◌≡◌, ◌%◌, ◌^◌, ◌<◌, max, min, false, List, Some, slice_get}
use Rattle.cdc_base.specs.declared.signal.Signal.{Signal}
use Rattle.cdc_base.specs.declared.signal.SigKind.{SigKind}
use Rattle.cdc_base.specs.declared.signal.SigKind.TheVariants.{Input, Register, Wire}
use Rattle.cell_graph.specs.declared.net.Reg.{Reg}
use Rattle.cell_graph.specs.Cells.{Cells, signal_width}
use Rattle.cell_graph.specs.Nets.{IsWordOf, is_register}

-- the bits of a word, where this many are asked for
abbrev pub word_width : ℕ → ℕ
word_width w = max (min w 64) 1

-- the bits of a signal that are known to have a start value, which a register alone has
abbrev pub known_bits : SigKind → ℕ → ℕ → ℕ
known_bits Input width known = 0
known_bits Register width known = known % 2 ^ width
known_bits Wire width known = 0

-- the signal as a word, in which its start value lies
abbrev pub as_word : Signal → Signal
as_word s = record s {
  width = word_width s.width;
  known = known_bits s.kind (word_width s.width) s.known;
  start = s.start % 2 ^ word_width s.width;
}

-- start values lie in their signals, as the masks of the bits that have one, and registers alone have them
pub record AreStarted (signals : List Signal) : Type 0 where
  pub known : (sig : ℕ) (s : Signal) → slice_get signals sig ≡ Some s → s.known < 2 ^ s.width
  pub start : (sig : ℕ) (s : Signal) → slice_get signals sig ≡ Some s → s.start < 2 ^ s.width
  pub registers : (sig : ℕ) (s : Signal) → slice_get signals sig ≡ Some s → is_register s.kind ≡ false → s.known ≡ 0

-- a register's next value has its bits, and its clock is one bit
abbrev pub IsRegOf : Cells → Reg → Type 0
IsRegOf g r = IsWordOf g r.next (signal_width g.signals r.sig) × IsWordOf g r.clock 1
