-- The bits so far.
use Rattle.std.proofs.Common.{◌≡◌, ◌≤◌, Bool}
use Rattle.cell_graph.specs.declared.cell.CellId.{CellId}
use Rattle.cell_graph.specs.Cells.{cell_at, cell_width}
use Rattle.cell_graph.specs.Tree.{number}
use Rattle.fifo_ways.specs.Judged.{judged}
use Rattle.fifo_ways.specs.Marked.{found_by}
use Rattle.fifo_ways.specs.Rows.{bits_of, has}
use Rattle.fifo_ways.proofs.judge.row_of.Given as goal

abbrev pub invariant-loop-at : goal.invariant-loop-at
invariant-loop-at l = ((id : CellId) → cell_width l.graph id ≤ 64) → (b : Bool)
    → bits_of b l.row ≡ number (judged l.graph (found_by l.marked) (has l.rows) b (cell_at l.graph l.cell) l.cell) l.at
