-- The columns of the nodes so far.
use Rattle.std.proofs.Common.{◌≡◌, Some, map, take}
use Rattle.cell_graph.specs.declared.cell.Node.{Node}
use Rattle.fifo_scheme.specs.declared.found.Column.{Column}
use Rattle.fifo_scheme.specs.Met.{AreGathered, column_at, entry_column, HaveOneValue}
use Rattle.fifo_scheme.proofs.judge.values_of.Given as goal

abbrev pub invariant-loop-node : goal.invariant-loop-node
invariant-loop-node l = HaveOneValue l.index l.reads l.nodes
    → AreGathered (λ (n : Node) (c : Column). column_at l.index l.reads n ≡ Some c) (take l.node-index l.nodes) (map entry_column l.values.entries)
