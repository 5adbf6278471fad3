use Rattle.std.proofs.Common.{◌≡◌, ◌++◌, drop}
use Rattle.run_report.specs.Printed.{unsettled_in}
use Rattle.run_report.proofs.run.unsettled.Given as goal

abbrev pub invariant-loop-bit : goal.invariant-loop-bit
invariant-loop-bit l = unsettled_in l.sim.cycles l.bits ≡ l.found ++ unsettled_in l.sim.cycles (drop l.bit-index l.bits)
