use Rattle.std.proofs.Common.{◌≡◌, ◌++◌, drop}
use Rattle.report.specs.VerdictText.{ended}
use Rattle.report.proofs.verdict.add_lines.Given as goal

abbrev pub invariant-loop-line : goal.invariant-loop-line
invariant-loop-line l = l.initial.text ++ ended l.lines ≡ l.text ++ ended (drop l.line-index l.lines)
