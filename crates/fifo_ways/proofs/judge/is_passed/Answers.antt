-- The lowest bits of both operands, for a sum and a difference, and all of them for a comparison.
use Rattle.std.proofs.Common.{◌≡◌, ◌∙◌, ap, subst, arith, suc, ◌&&◌}
use Rattle.cell_graph.specs.declared.cell.Cell.{Cell}
use Rattle.cell_graph.specs.declared.cell.Cell.TheVariants.{Add, Sub}
use Rattle.cell_graph.specs.Tree.{all_below}
use Rattle.cofactor.proofs.Arms.{of-two}
use Rattle.fifo_ways.specs.Judged.{judged}
use Rattle.fifo_ways.specs.Marked.{found_by}
use Rattle.fifo_ways.specs.Rows.{has}
use Rattle.fifo_ways.proofs.judge.is_passed.Goals as goal

pub returns-in-Add : goal.returns-in-Add
returns-in-Add c = λ small lt.
    let n : c.saturating_add.result ≡ suc c.args.node.at = omega arith in
    let e = c.have_all-in-Add.ensures (omega arith)
    ∙ ap (λ k. all_below (has c.args.rows.now c.args.guarded c.in-Add.a) k && all_below (has c.args.rows.now c.args.guarded c.in-Add.b) k) n in
    subst (λ (x : Cell). c.have_all-in-Add.result ≡ judged c.args.graph.now (found_by c.args.marked.now) (has c.args.rows.now) c.args.guarded x
    c.args.node.cell c.args.node.at) c.cell.ensures
    (of-two (λ (x : Cell). c.have_all-in-Add.result ≡ judged c.args.graph.now (found_by c.args.marked.now) (has c.args.rows.now) c.args.guarded x
    c.args.node.cell c.args.node.at)
    c.cell.result (Add c.in-Add.a c.in-Add.b) (Sub c.in-Add.a c.in-Add.b) e e c.in-Add.is)
