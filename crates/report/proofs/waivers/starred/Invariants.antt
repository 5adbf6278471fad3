use Rattle.std.proofs.Common.{◌≡◌, ◌++◌, drop, map}
use Rattle.report.specs.Search.{starred}
use Rattle.report.proofs.waivers.starred.Given as goal

abbrev pub invariant-loop-place : goal.invariant-loop-place
invariant-loop-place l = starred 0 l.waivers ≡ map (λ p. (p.0, p.1.now)) l.found.items ++ starred l.place (drop l.place l.waivers)
