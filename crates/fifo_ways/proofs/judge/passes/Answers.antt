-- The rows of all cells below the roots answer for the roots.
use Rattle.std.proofs.Common.{◌∙◌, false}
use Rattle.cell_graph.specs.Unfolded.{tree_of}
use Rattle.cofactor.proofs.Places.{if_ok}
use Rattle.fifo_laws.specs.Fifos.{marks_of}
use Rattle.fifo_laws.specs.Ways.{Passes}
use Rattle.fifo_ways.specs.Rows.{has}
use Rattle.fifo_ways.proofs.Passing.{roots-judged, node-cell, are-below, top-there}
use Rattle.fifo_ways.proofs.judge.passes.Goals as goal

pub returns : goal.returns
returns c = record {
  exact = if_ok c.answers.result (λ answers e d tree write read well nodes shows.
      let g = c.args.net.now.graph in
      let roots = c.args.roots.now in
      let tops = c.as_slice.result.now in
      let cells = c.in_ok-cells.cells.items in
      let order = c.as_slice-2.result.now in
      let named = c.as_slice.ensures.value ∙ c.in_ok-tops.ensures in
      let walked = c.in_ok-cells.ensures in
      let are = are-below g well roots nodes tops cells order named c.as_slice-2.ensures.value walked.closed walked.below walked.ascending
      walked.within in
      roots-judged (λ n. Passes (marks_of d tree write read) false (tree_of g n.cell) n.at) (λ n. has c.in_ok-rows.rows false n.cell n.at) roots
      answers e
      (λ n h. c.in_ok-rows.ensures roots c.args.sought.now d tree write read well shows c.in_ok-marked.ensures are n.cell
      (top-there roots tops cells order named c.as_slice-2.ensures.value walked.roots n.cell (node-cell roots n h)) false n.at (nodes n h).1))
      c.answers.ensures;
}
