use Rattle.std.proofs.Common.{◌≡◌, ◌++◌, drop}
use Rattle.run_report.specs.Lines.{unsettled_lines}
use Rattle.run_report.proofs.changes.add_unsettled.Given as goal

abbrev pub invariant-loop-bit : goal.invariant-loop-bit
invariant-loop-bit l = l.initial.text ++ unsettled_lines l.net.graph.signals l.bits ≡ l.text ++ unsettled_lines l.net.graph.signals (drop l.bit-index l.bits)
