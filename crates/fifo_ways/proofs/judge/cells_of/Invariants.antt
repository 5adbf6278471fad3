-- The cells so far, and those of the nodes that are left.
use Rattle.std.proofs.Common.{◌≡◌, ◌++◌, drop}
use Rattle.fifo_ways.specs.Guards.{cells_of}
use Rattle.fifo_ways.proofs.judge.cells_of.Given as goal

abbrev pub invariant-loop-node : goal.invariant-loop-node
invariant-loop-node l = cells_of l.nodes ≡ l.cells.items ++ cells_of (drop l.node-index l.nodes)
