-- The lines so far are written.
use Rattle.std.proofs.Common.{◌≡◌, ◌++◌, drop}
use Rattle.report.specs.VerdictText.{ended}
use Rattle.audit_command.proofs.with_lines.Given as goal

abbrev pub invariant-loop-line : goal.invariant-loop-line
invariant-loop-line l = ended l.lines ≡ l.whole ++ ended (drop l.line-index l.lines)
