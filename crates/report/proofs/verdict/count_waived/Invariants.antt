use Rattle.std.proofs.Common.{◌≡◌, ◌≤◌, take}
use Rattle.report.specs.VerdictText.{waived_count}
use Rattle.report.proofs.verdict.count_waived.Given as goal

abbrev pub invariant-loop-waiver : goal.invariant-loop-waiver
invariant-loop-waiver l = record { counted : l.count ≡ waived_count (take l.waiver-index l.aside); few : l.count ≤ l.waiver-index }
