-- The answers so far, and those for the nodes that are left.
use Rattle.std.proofs.Common.{◌≡◌, ◌++◌, false, drop, map}
use Rattle.cell_graph.specs.declared.cell.Node.{Node}
use Rattle.fifo_ways.specs.Rows.{has}
use Rattle.fifo_ways.proofs.judge.answers.Given as goal

abbrev pub invariant-loop-node : goal.invariant-loop-node
invariant-loop-node l =
    map (λ (n : Node). has l.rows false n.cell n.at) l.nodes ≡ l.answers ++ map (λ (n : Node). has l.rows false n.cell n.at)
    (drop l.node-index l.nodes)
