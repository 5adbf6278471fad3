-- The crossings so far were added.
use Rattle.std.proofs.Common.{◌≡◌, ◌++◌, drop, map}
use Rattle.fifo_scheme.specs.Ended.{ended_of}
use Rattle.fifo_scheme.proofs.found.add_ended.Given as goal

abbrev pub invariant-loop-crossing : goal.invariant-loop-crossing
invariant-loop-crossing l = l.initial.ended.items ++ map ended_of l.crossings ≡ l.ended.items ++ map ended_of (drop l.crossing-index l.crossings)
