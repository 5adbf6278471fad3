-- What was found among the nodes so far.
use Rattle.std.proofs.Common.{◌≡◌, ◌++◌, drop}
use Rattle.std.specs.Prelude.{filter}
use Rattle.fifo_ways.specs.Reads.{is_sought_read}
use Rattle.fifo_ways.proofs.reach.reads_among.Given as goal

abbrev pub invariant-loop-node : goal.invariant-loop-node
invariant-loop-node l =
    filter (is_sought_read l.graph l.sought) l.nodes ≡ l.found ++ filter (is_sought_read l.graph l.sought) (drop l.node-index l.nodes)
