-- All start at 0 where those to come do.
use Rattle.std.proofs.Common.{drop}
use Rattle.std.specs.Prelude.{◌↔◌}
use Rattle.fifo_parts.specs.Sides.{AllStartAtZero}
use Rattle.fifo_parts.proofs.brought.start_at_zero.Given as goal

abbrev pub invariant-loop-bit : goal.invariant-loop-bit
invariant-loop-bit l = AllStartAtZero l.net.graph.signals l.bits ↔ AllStartAtZero l.net.graph.signals (drop l.bit-index l.bits)
