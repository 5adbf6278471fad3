-- The bits so far, but for the lowest, are known to be 0.
use Rattle.std.proofs.Common.{◌≡◌, ◌<◌, ◌≤◌, ℕ, Some, false, []}
use Rattle.cell_graph.specs.declared.net.Net.{Net}
use Rattle.cell_graph.specs.Cofactor.{known}
use Rattle.cell_graph.specs.Unfolded.{tree_of}
use Rattle.cdc_model.specs.Tables.{ShowsNet}
use Rattle.gray_pointer.specs.Words.{HasWord}
use Rattle.gray_pointer.proofs.word.is_step.Given as goal

abbrev pub invariant-loop-at : goal.invariant-loop-at
invariant-loop-at l = (net : Net) → ShowsNet net [] l.table → HasWord net.graph l.cell l.width
    → (i : ℕ) → 1 ≤ i → i < l.at → known [] (tree_of net.graph l.cell) i ≡ Some false
