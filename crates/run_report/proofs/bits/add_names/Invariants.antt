use Rattle.std.proofs.Common.{◌≡◌, ◌++◌, drop}
use Rattle.report.specs.Names.{spaced}
use Rattle.run_report.proofs.bits.add_names.Given as goal

abbrev pub invariant-loop-bit : goal.invariant-loop-bit
invariant-loop-bit l = l.initial.text ++ spaced l.net.graph.signals l.bits ≡ l.text ++ spaced l.net.graph.signals (drop l.bit-index l.bits)
