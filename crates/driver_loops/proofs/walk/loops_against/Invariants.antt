use Rattle.std.proofs.Common.{◌≡◌, List, ℕ, ◌++◌, length}
use Rattle.driver_loops.specs.Links.{IsReversed}
use Rattle.driver_loops.specs.Orders.{IsOrderOf}
use Rattle.driver_loops.proofs.Components.{HasJoined}
use Rattle.driver_loops.proofs.walk.loops_against.Given as goal

abbrev pub invariant-loop-root : goal.invariant-loop-root
invariant-loop-root l = record {
  size : length l.on_loops.items ≡ length l.links;
  front : (rest : List ℕ) × (l.order ≡ l.left ++ rest);
  joined : (roots : List ℕ) → IsOrderOf l.links roots l.order → IsReversed l.links l.order l.back → HasJoined l.links l.back l.order (length l.left) l.walk l.on_loops.items;
}

abbrev pub decreases-loop-root : goal.decreases-loop-root
decreases-loop-root l = length l.left
