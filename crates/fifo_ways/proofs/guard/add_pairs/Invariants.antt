-- The pairs so far were added.
use Rattle.std.proofs.Common.{◌≡◌, ◌++◌}
use Rattle.fifo_ways.specs.Guards.{pair_guards}
use Rattle.fifo_ways.proofs.guard.add_pairs.Given as goal

abbrev pub invariant-loop-at : goal.invariant-loop-at
invariant-loop-at l = l.guards ≡ l.initial.guards ++ pair_guards l.a l.b l.value l.at
