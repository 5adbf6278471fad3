use Rattle.std.proofs.Common.{◌≡◌, ◌++◌, drop}
use Rattle.report.specs.Names.{spaced}
use Rattle.report.proofs.names.add_spaced.Given as goal

abbrev pub invariant-loop-bit : goal.invariant-loop-bit
invariant-loop-bit l = l.initial.line ++ spaced l.net.graph.signals l.bits ≡ l.line ++ spaced l.net.graph.signals (drop l.bit-index l.bits)
