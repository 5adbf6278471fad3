-- All bits start at 0 where those to come do.
use Rattle.std.proofs.Common.{◌-◌}
use Rattle.std.specs.Prelude.{◌↔◌}
use Rattle.cdc_model.specs.Design.{bits_from}
use Rattle.fifo_parts.specs.Sides.{AllStartAtZero, all_bits}
use Rattle.fifo_parts.proofs.side.starts_at_zero.Given as goal

abbrev pub invariant-loop-at : goal.invariant-loop-at
invariant-loop-at l = AllStartAtZero l.net.graph.signals (all_bits l.net.graph.signals l.bit.sig)
    ↔ AllStartAtZero l.net.graph.signals (bits_from l.bit.sig l.at (l.at-end - l.at))
