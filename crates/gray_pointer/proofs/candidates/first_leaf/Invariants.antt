-- The bit is one of a count word, so many cells lower.
use Rattle.std.proofs.Common.{◌≡◌, ◌<◌, ◌≤◌, ◌+◌, ℕ, Some}
use Rattle.cell_graph.specs.declared.cell.Node.{Node}
use Rattle.cell_graph.specs.Unfolded.{IsNodeOf}
use Rattle.gray_pointer.specs.Leaves.{CountsItself}
use Rattle.gray_pointer.specs.Words.{IsPlain}
use Rattle.gray_pointer.proofs.candidates.first_leaf.Given as goal

abbrev pub invariant-loop : goal.invariant-loop
invariant-loop l = IsPlain l.net.graph → (sig w : ℕ) (start : Node) → l.fn.bit ≡ Some start → IsNodeOf l.net.graph start → start.at < w → CountsItself l.net.graph sig w start.cell
    → IsNodeOf l.net.graph l.node × (l.node.at ≡ start.at) × CountsItself l.net.graph sig w l.node.cell × (l.node.cell.0 + l.counter ≤ start.cell.0)
