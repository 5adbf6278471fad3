-- All sources are those that are there and those of the crossings to come.
use Rattle.std.proofs.Common.{◌≡◌, ◌++◌, drop}
use Rattle.domains.specs.Nets.{IsNet}
use Rattle.mux_recirc.specs.Held.{sources_among}
use Rattle.mux_recirc.proofs.held.unsorted_sources.Given as goal

abbrev pub invariant-loop-crossing : goal.invariant-loop-crossing
invariant-loop-crossing l = IsNet l.net → sources_among l.net l.crossings ≡ l.sources.items ++ sources_among l.net (drop l.crossing-index l.crossings)
