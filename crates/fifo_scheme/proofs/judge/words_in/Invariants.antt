-- The bits of the columns so far.
use Rattle.std.proofs.Common.{◌≡◌, ◌↔◌, true, take}
use Rattle.std.specs.HashSet as set
use Rattle.cdc_base.specs.declared.bit.Bit.{Bit}
use Rattle.fifo_ways.specs.Marked.{same_bit}
use Rattle.fifo_scheme.specs.Met.{IsOfEntries}
use Rattle.fifo_scheme.proofs.judge.words_in.Given as goal

abbrev pub invariant-loop-column : goal.invariant-loop-column
invariant-loop-column l = (b : Bit) → (set.contains same_bit l.words b ≡ true) ↔ IsOfEntries (take l.column-index l.columns) b
