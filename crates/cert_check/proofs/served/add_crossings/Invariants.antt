-- All are those that are there and those of the crossings to come.
use Rattle.std.proofs.Common.{◌≡◌, ◌++◌, drop}
use Rattle.cert_check.specs.Served.{crossing_passages}
use Rattle.cert_check.proofs.served.add_crossings.Given as goal

abbrev pub invariant-loop-crossing : goal.invariant-loop-crossing
invariant-loop-crossing l = l.initial.served.items ++ crossing_passages l.crossings ≡ l.served.items ++ crossing_passages (drop l.crossing-index l.crossings)
