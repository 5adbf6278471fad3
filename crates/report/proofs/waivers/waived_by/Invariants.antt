use Rattle.std.proofs.Common.{◌≡◌, map, take}
use Rattle.report.specs.Waived.{first_match}
use Rattle.report.proofs.waivers.waived_by.Given as goal

abbrev pub invariant-loop-line : goal.invariant-loop-line
invariant-loop-line l = l.aside ≡ map (λ line. first_match line 0 l.waivers) (take l.line-index l.lines)
