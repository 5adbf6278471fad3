use Rattle.std.proofs.Common.{◌≡◌, IfOk, sym, subst}
use Rattle.verilog_reading.specs.StmtTree.{stmt_tree_of}
use Rattle.flat_unfolding.specs.Design.{look_of}
use Rattle.flat_unfolding.specs.Starts.{Starts}
use Rattle.flat_names.specs.Noting.{all_noted}
use Rattle.flat_names.specs.Designs.{ShowsNames}
use Rattle.flat_names.proofs.Notes.{then-noted}
use Rattle.flat_process.specs.Starts.{AreStarts, row_one, row_broken}
use Rattle.flat_process.proofs.Started.{row-is, row-inside, look-of}
use Rattle.flat_process.proofs.start.initial_statement.Goals as goal

pub returns : goal.returns
returns c = λ pins s a f names h is formed noted.
    let l = look_of s in
    let t = stmt_tree_of c.args.stmt.now in
    let look = look-of pins c.look-look.result c.args.design.now s a (subst (λ k. ShowsNames k s.names) (sym c.look-look.ensures.names) names) h c.look-look.ensures.entries c.look-look.ensures.active in
    let g = c.in_ok-start.ensures l look is formed in
    subst (λ (b : Starts). IfOk c.set_start.result (λ _. AreStarts pins c.set_start.new.design s.design b × (c.set_start.new.faults ≡ all_noted f b.broken))) (sym (row-is l a t))
    (c.set_start.ensures pins s.design a (row_one l t) (row_broken l t) f h g.0 (row-inside l t) (then-noted f c.args.faults.now c.row_start.new.faults a.broken (row_broken l t) noted g.1))
