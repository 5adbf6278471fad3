-- The crossings so far are listed.
use Rattle.std.proofs.Common.{◌≡◌, ◌++◌, drop, map}
use Rattle.fifo_scheme.specs.Ended.{crossing_of}
use Rattle.fifo_scheme.proofs.found.listed.Given as goal

abbrev pub invariant-loop-crossing : goal.invariant-loop-crossing
invariant-loop-crossing l = map crossing_of l.ended ≡ l.crossings ++ map crossing_of (drop l.crossing-index l.ended)
