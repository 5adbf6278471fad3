-- All groups are those that are there and those of the rings to come.
use Rattle.std.proofs.Common.{◌≡◌, ◌++◌, drop, map}
use Rattle.mux_recirc.specs.Given.{sides_of}
use Rattle.mux_recirc.proofs.guards.sides_of.Given as goal

abbrev pub invariant-loop-ring : goal.invariant-loop-ring
invariant-loop-ring l = map (sides_of l.domains) l.rings ≡ l.sides.items ++ map (sides_of l.domains) (drop l.ring-index l.rings)
