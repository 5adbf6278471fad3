-- None of the terms so far is a test.
use Rattle.std.proofs.Common.{◌≤◌, [], All, length, take}
use Rattle.cell_graph.specs.Unfolded.{IsNodeOf}
use Rattle.cdc_model.specs.Tables.{ShowsNet}
use Rattle.gray_pointer.specs.Words.{IsPlain}
use Rattle.fifo_nodes.specs.Codes.{code_of, nodes_of, apart_of, IsCodeIn}
use Rattle.fifo_nodes.proofs.Comparing.{IsNoTest}
use Rattle.fifo_nodes.proofs.shows.is_flag_test.Given as goal

abbrev pub invariant-loop-term : goal.invariant-loop-term
invariant-loop-term l = IsPlain l.net.graph → ShowsNet l.net [] l.table → IsCodeIn l.net.graph l.code → length l.over ≤ 64
    → IsNodeOf l.net.graph l.fn.next
    → All (IsNoTest (code_of l.net.graph l.code) (nodes_of l.net.graph l.over) (apart_of l.apart) l.net.graph) (take l.term-index l.term-items)
