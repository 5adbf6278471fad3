use Rattle.std.proofs.Common.{◌≡◌, drop}
use Rattle.std.specs.List.{list_any}
use Rattle.report.specs.Waived.{matches}
use Rattle.report.proofs.waivers.matches_any.Given as goal

abbrev pub invariant-loop-line : goal.invariant-loop-line
invariant-loop-line l = list_any (matches l.pattern) l.lines ≡ list_any (matches l.pattern) (drop l.line-index l.lines)
