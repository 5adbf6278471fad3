-- The terms of the bits so far were asked for.
use Rattle.std.proofs.Common.{ℕ, ◌<◌, Some}
use Rattle.cell_graph.specs.Cells.{cell_width}
use Rattle.cell_graph.specs.Feeds.{node}
use Rattle.cell_graph.specs.Unfolded.{tree_of}
use Rattle.fifo_terms.specs.Terms.{terms, each_below}
use Rattle.gray_pointer.specs.Words.{IsPlain}
use Rattle.fifo_nodes.specs.Nodes.{IsWithin}
use Rattle.fifo_nodes.specs.Searches.{Covers}
use Rattle.fifo_nodes.proofs.search.Search.ask_each.Given as goal

abbrev pub invariant-loop-at : goal.invariant-loop-at
invariant-loop-at l = (n : ℕ) → IsPlain l.net.graph → ((j : ℕ) → j < cell_width l.net.graph l.cell → IsWithin l.net.graph n (Some (node l.cell j)))
    → Covers l.net.graph n (each_below (λ j. terms (tree_of l.net.graph l.cell) j l.value) l.at) l.initial.self l.self
