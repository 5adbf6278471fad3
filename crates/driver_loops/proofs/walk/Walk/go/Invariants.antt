use Rattle.std.proofs.Common.{◌≡◌, []}
use Rattle.driver_loops.specs.Walks.{IsDone, IsWalk}
use Rattle.driver_loops.proofs.walk.Walk.go.Given as goal

abbrev pub invariant-loop : goal.invariant-loop
invariant-loop l =
    l.fn.self.way.items ≡ [] → IsDone l.links l.fn.self.entered.items l.fn.self.order.items
    → IsWalk l.links l.fn.self.order.items l.root l.self.entered.items l.self.way.items l.self.order.items
