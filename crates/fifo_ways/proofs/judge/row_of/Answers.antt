-- One bit more, where a guard was passed and where none was.
use Rattle.std.proofs.Common.{◌≡◌, ◌∙◌, ap, refl, arith, suc, ◌+◌, ◌<◌, Bool, true, false}
use Rattle.cell_graph.specs.Cells.{cell_at, cell_width}
use Rattle.cell_graph.specs.Tree.{number}
use Rattle.fifo_ways.specs.Judged.{judged}
use Rattle.fifo_ways.specs.Marked.{found_by}
use Rattle.fifo_ways.specs.Rows.{has}
use Rattle.fifo_ways.proofs.RowBits.{both-rows}
use Rattle.fifo_ways.proofs.judge.row_of.Goals as goal

pub loop-at-init : goal.loop-at-init
loop-at-init c = λ small b. both-rows (λ b. 0) 0 0 refl refl b

pub loop-at-preserved : goal.loop-at-preserved
loop-at-preserved c = λ small b.
    let g = c.args.graph.now in
    let id = c.args.cell in
    let at = c.loop-at.at in
    let w = small id in
    let lt : at < 64 = omega arith in
    let rule = λ (b : Bool). judged g (found_by c.args.marked.now) (has c.args.rows.now) b (cell_at g id) id in
    both-rows (λ b. number (rule b) (at + 1)) _ _
    (c.with_bit.ensures (rule true) lt (c.loop-at.invariant small true) (c.is_passed.ensures small lt)
    ∙ ap (number (rule true)) (let e : suc at ≡ at + 1 = omega arith in e))
    (c.with_bit-in-loop-at.ensures (rule false) lt (c.loop-at.invariant small false) (c.is_passed-in-loop-at.ensures small lt)
    ∙ ap (number (rule false)) (let e : suc at ≡ at + 1 = omega arith in e)) b

pub returns : goal.returns
returns c = λ small b.
    let g = c.args.graph.now in
    let id = c.args.cell in
    let w = small id in
    c.loop-at.invariant small b ∙ ap (number (judged g (found_by c.args.marked.now) (has c.args.rows.now) b (cell_at g id) id))
    (let e : c.loop-at.at ≡ cell_width g id = omega arith in e)
