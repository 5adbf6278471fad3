use Rattle.std.proofs.Common.{◌≡◌, drop}
use Rattle.std.specs.Prelude.{find}
use Rattle.report.specs.Waived.{is_unmet}
use Rattle.report.proofs.waivers.find_unmet.Given as goal

abbrev pub invariant-loop-waiver : goal.invariant-loop-waiver
invariant-loop-waiver l = find (is_unmet l.lines) l.waivers ≡ find (is_unmet l.lines) (drop l.waiver-index l.waivers)
