use Rattle.std.proofs.Common.{◌≡◌, take}
use Rattle.report.specs.Waived.{first_lines}
use Rattle.report.proofs.waivers.first_lines.Given as goal

abbrev pub invariant-loop-finding : goal.invariant-loop-finding
invariant-loop-finding l = l.lines ≡ first_lines l.net l.domains (take l.finding-index l.findings)
