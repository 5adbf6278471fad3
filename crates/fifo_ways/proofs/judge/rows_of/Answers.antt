-- The row of one cell more, and in the end of all.
use Rattle.std.proofs.Common.{subst, refl, arith, List}
use Rattle.cell_graph.specs.declared.cell.CellId.{CellId}
use Rattle.cell_graph.proofs.Cones.{take_all}
use Rattle.cofactor.proofs.Arms.{small-width}
use Rattle.fifo_laws.specs.Fifos.{marks_of}
use Rattle.fifo_ways.specs.Marked.{found_by}
use Rattle.fifo_ways.specs.Rows.{HaveRows}
use Rattle.fifo_ways.proofs.Passing.{rows-step}
use Rattle.fifo_ways.proofs.judge.rows_of.Goals as goal

pub loop-cell-init : goal.loop-cell-init
loop-cell-init c = λ roots s d tree write read well shows found are a there. absurd (omega (arith, there.1))

pub loop-cell-preserved : goal.loop-cell-preserved
loop-cell-preserved c = λ roots s d tree write read well shows found are a there.
    let none : CellId = record { 0 = 0 } in
    rows-step c.args.graph.now well roots s (marks_of d tree write read) shows (found_by c.args.marked.now) found c.loop-cell.rows c.add_row.new.rows
    c.args.cells.now are
    c.loop-cell.cell-index none _ c.loop-cell-test.true refl c.row_of-row.result (c.row_of-row.ensures (λ id. small-width c.args.graph.now well id))
    c.in_ok-add_row.ensures
    (c.loop-cell.invariant roots s d tree write read well shows found are) a there

pub returns : goal.returns
returns c =
    let e = take_all c.args.cells.now c.loop-cell.cell-index (let l = c.loop-cell-test.false in omega arith) in
    subst (λ (done : List CellId). HaveRows c.args.graph.now (found_by c.args.marked.now) c.args.cells.now done c.loop-cell.rows) e
    c.loop-cell.invariant
