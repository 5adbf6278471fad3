use Rattle.std.proofs.Common.{◌≡◌, drop}
use Rattle.report.specs.Greedy.{first_behind}
use Rattle.report.proofs.pattern.first_behind.Given as goal

abbrev pub invariant-loop-place : goal.invariant-loop-place
invariant-loop-place l = first_behind l.piece l.line ≡ first_behind l.piece (drop l.place l.line)
