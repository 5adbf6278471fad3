use Rattle.std.proofs.Common.{◌≡◌, drop, map}
use Rattle.report.specs.Search.{earliest}
use Rattle.report.proofs.waivers.earliest.Given as goal

abbrev pub invariant-loop-place : goal.invariant-loop-place
invariant-loop-place l = earliest l.line l.exact (map (λ p. (p.0, p.1.now)) l.starred) ≡ earliest l.line l.exact (map (λ p. (p.0, p.1.now)) (drop l.place-index l.starred))
