-- Each of the terms so far says of some bit how it differs.
use Rattle.std.proofs.Common.{◌≤◌, [], All, length, take}
use Rattle.cdc_model.specs.Tables.{ShowsNet}
use Rattle.gray_pointer.specs.Words.{IsPlain, IsIn}
use Rattle.fifo_nodes.specs.Codes.{code_of, nodes_of, apart_of, IsCodeIn}
use Rattle.fifo_nodes.proofs.Comparing.{Says}
use Rattle.fifo_nodes.proofs.shows.shows.Given as goal

abbrev pub invariant-loop-term : goal.invariant-loop-term
invariant-loop-term l = IsPlain l.net.graph → ShowsNet l.net [] l.table → IsCodeIn l.net.graph l.code → length l.over ≤ 64
    → IsIn l.net.graph l.fn.node
    → All (Says (code_of l.net.graph l.code) (nodes_of l.net.graph l.over) (apart_of l.apart) l.net.graph) (take l.term-index l.term-items)
