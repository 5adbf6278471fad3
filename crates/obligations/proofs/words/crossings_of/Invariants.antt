-- The crossings of all first flops are those so far, then those of the rest.
use Rattle.std.proofs.Common.{◌≡◌, ◌++◌, map, drop}
use Rattle.obligations.specs.Words.{crossing_of}
use Rattle.obligations.proofs.words.crossings_of.Given as goal

abbrev pub invariant-loop-entry : goal.invariant-loop-entry
invariant-loop-entry l = map crossing_of l.lot ≡ l.crossings ++ map crossing_of (drop l.entry-index l.lot)
