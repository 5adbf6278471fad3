use Rattle.std.proofs.Common.{ℕ, ◌<◌}
use Rattle.std.specs.List.{All}
use Rattle.std.specs.List.Sorted.{IsNonDecreasingBy}
use Rattle.driver_loops.proofs.Turned.{AreJoined}
use Rattle.driver_loops.proofs.links.Links.joined.Given as goal

abbrev pub invariant-loop-pair : goal.invariant-loop-pair
invariant-loop-pair l = IsNonDecreasingBy (λ (p : ℕ × ℕ). p.0) l.pairs → All (λ (p : ℕ × ℕ). p.0 < l.count) l.pairs → AreJoined l.pairs l.count l.pair-index l.links
