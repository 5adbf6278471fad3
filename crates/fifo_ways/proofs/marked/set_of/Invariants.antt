-- The items so far are in the set.
use Rattle.std.proofs.Common.{◌≡◌, take}
use Rattle.std.specs.HashSet as set
use Rattle.std.specs.List.{list_any}
use Rattle.fifo_ways.proofs.marked.set_of.Given as goal

abbrev pub invariant-loop-item : goal.invariant-loop-item
invariant-loop-item g l = (q : _) → set.contains g.T.PartialEq.eq l.found q ≡ list_any (g.T.PartialEq.eq q) (take l.item-index l.items)
