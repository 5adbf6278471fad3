-- None of the bits so far are compared.
use Rattle.std.proofs.Common.{◌<◌, ℕ, [], option_map}
use Rattle.cell_graph.specs.Unfolded.{bit_of}
use Rattle.cdc_model.specs.Tables.{ShowsNet}
use Rattle.fifo_terms.specs.Codes.{IsCodeBit}
use Rattle.gray_pointer.specs.Words.{IsPlain, IsIn}
use Rattle.fifo_nodes.specs.Codes.{code_of, nodes_of, apart_of, IsCodeIn}
use Rattle.fifo_nodes.specs.Shows.{IsApart}
use Rattle.fifo_nodes.proofs.shows.compares_in_order.Given as goal

abbrev pub invariant-loop-at : goal.invariant-loop-at
invariant-loop-at l = IsPlain l.net.graph → ShowsNet l.net [] l.table → IsCodeIn l.net.graph l.code → IsIn l.net.graph l.nodes.own
    → IsIn l.net.graph l.nodes.came
    → (i : ℕ) → i < l.at → IsCodeBit (code_of l.net.graph l.code) i (option_map (bit_of l.net.graph) l.nodes.own)
    × IsApart (nodes_of l.net.graph l.over) (apart_of l.apart) (option_map (bit_of l.net.graph) l.nodes.came) l.nodes.value i → ⊥
