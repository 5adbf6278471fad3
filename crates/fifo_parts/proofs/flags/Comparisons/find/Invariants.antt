-- The flags of the bits so far are added, and no others.
use Rattle.std.proofs.Common.{ℕ, take, Contains}
use Rattle.cdc_base.specs.declared.bit.Bit.{Bit}
use Rattle.fifo_parts.specs.declared.flags.Flag.{Flag}
use Rattle.fifo_parts.specs.Comparisons.{IsAdded, IsAtBit, IsAtClock, IsOwn}
use Rattle.fifo_parts.specs.Tellers.{IsShown}
use Rattle.fifo_parts.proofs.flags.Comparisons.find.Given as goal

abbrev pub invariant-loop-bit : goal.invariant-loop-bit
invariant-loop-bit l = record {
  added : IsShown l.shown.net.now l.shown.table.now → (f : Flag) → Contains (take l.bit-index l.bit-items) f.bit
      → IsOwn l.shown.net.now l.shown.domains.now f
      → IsAdded l.shown.net.now l.shown.domains.now l.found f;
  own : IsShown l.shown.net.now l.shown.table.now → (f : Flag) (b : Bit) → IsAtBit l.found.by_bit b f → IsOwn l.shown.net.now l.shown.domains.now f;
  clocked : IsShown l.shown.net.now l.shown.table.now → (f : Flag) (c : ℕ) → IsAtClock l.found.by_clock c f
      → IsOwn l.shown.net.now l.shown.domains.now f;
}
