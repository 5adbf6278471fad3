-- The terms of the pairs of bits so far were asked for.
use Rattle.std.proofs.Common.{ℕ, ◌<◌, Some, []}
use Rattle.cell_graph.specs.Cells.{cell_width}
use Rattle.cell_graph.specs.Feeds.{node}
use Rattle.cdc_model.specs.Tables.{ShowsNet}
use Rattle.fifo_terms.specs.Terms.{each_below}
use Rattle.gray_pointer.specs.Words.{IsPlain}
use Rattle.fifo_nodes.specs.Nodes.{IsWithin}
use Rattle.fifo_nodes.specs.Searches.{Covers}
use Rattle.fifo_nodes.specs.Terms.{unequal}
use Rattle.fifo_nodes.proofs.search.Search.ask_pairs.Given as goal

abbrev pub invariant-loop-at : goal.invariant-loop-at
invariant-loop-at l = (n : ℕ) → IsPlain l.net.graph → ShowsNet l.net [] l.table
    → ((j : ℕ) → j < cell_width l.net.graph l.one → IsWithin l.net.graph n (Some (node l.one j)) × IsWithin l.net.graph n (Some (node l.another j)))
    → Covers l.net.graph n (each_below (λ j. unequal l.net.graph (node l.one j) (node l.another j) l.value) l.at) l.initial.self l.self
