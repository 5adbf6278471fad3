-- The bits so far are the exclusive or of neighbours.
use Rattle.std.proofs.Common.{ℕ, suc, ◌<◌, []}
use Rattle.cell_graph.specs.Origin.{origin}
use Rattle.cell_graph.specs.Unfolded.{tree_of}
use Rattle.cdc_model.specs.Tables.{ShowsNet}
use Rattle.cdc_model.specs.Word.{IsXorOf}
use Rattle.gray_pointer.specs.Words.{IsPlain, HasWord, HasCoded, coded_bit}
use Rattle.gray_pointer.proofs.word.is_gray_code.Given as goal

abbrev pub invariant-loop-at : goal.invariant-loop-at
invariant-loop-at l = IsPlain l.net.graph → ShowsNet l.net [] l.table → HasWord l.net.graph l.cell l.width → HasCoded l.net.graph l.word l.width
    → (i : ℕ) → i < l.at → IsXorOf (origin (tree_of l.net.graph l.cell) i) (coded_bit l.net.graph l.word l.width i) (coded_bit l.net.graph l.word l.width (suc i))
