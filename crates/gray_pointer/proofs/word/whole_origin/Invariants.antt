-- The bits so far are those of the whole.
use Rattle.std.proofs.Common.{◌≡◌, ◌<◌, ℕ, Some}
use Rattle.cell_graph.specs.Cells.{cell_width}
use Rattle.cell_graph.specs.Origin.{origin}
use Rattle.cell_graph.specs.Unfolded.{tree_of}
use Rattle.gray_pointer.specs.Words.{IsPlain, HasWord}
use Rattle.gray_pointer.proofs.word.whole_origin.Given as goal

abbrev pub invariant-loop-at : goal.invariant-loop-at
invariant-loop-at l = IsPlain l.net.graph → HasWord l.net.graph l.fn.cell l.fn.width
    → (i : ℕ) → i < l.at → (origin (tree_of l.net.graph l.fn.cell) i ≡ Some (tree_of l.net.graph l.whole, i)) × (i < cell_width l.net.graph l.whole)
