use Rattle.std.proofs.Common.{◌≡◌, length}
use Rattle.report.specs.Waived.{after_run, matches}
use Rattle.report.proofs.pattern.matches_after_run.Given as goal

abbrev pub invariant-loop-piece : goal.invariant-loop-piece
invariant-loop-piece l = after_run (matches l.fn.pattern) l.fn.line ≡ after_run (matches l.pattern) l.line

abbrev pub decreases-loop-piece : goal.decreases-loop-piece
decreases-loop-piece l = length l.pattern
