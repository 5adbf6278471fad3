use Rattle.std.proofs.Common.{◌≡◌, take, false}
use Rattle.report.specs.Greedy.{has_star}
use Rattle.report.proofs.pattern.split_star.Given as goal

abbrev pub invariant-loop-place : goal.invariant-loop-place
invariant-loop-place l = has_star (take l.place l.pattern) ≡ false
