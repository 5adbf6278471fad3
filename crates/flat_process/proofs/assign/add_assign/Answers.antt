use Rattle.std.proofs.Common.{◌++◌, sym, ap, subst, ◌∙◌}
use Rattle.verilog_reading.specs.ExprTree.{tree_of, target_tree_of}
use Rattle.flat_unfolding.specs.Outcome.{by_number}
use Rattle.flat_unfolding.specs.Expressions.{read}
use Rattle.flat_unfolding.specs.Targets.{wire_aim}
use Rattle.flat_unfolding.specs.Design.{look_of, assigned}
use Rattle.flat_names.specs.Noting.{all_noted}
use Rattle.flat_names.specs.Designs.{ShowsNames}
use Rattle.flat_process.proofs.Ended.{look-shown, stage-ends}
use Rattle.flat_process.proofs.assign.add_assign.Goals as goal

pub returns-clause-meets : goal.returns-clause-meets
returns-clause-meets c = λ pins s sh fit target value.
    let a = wire_aim (look_of s) (target_tree_of c.args.target.now) in
    let v = read (look_of s) (tree_of c.args.value.now) in
    let bs = a.broken ++ v.broken in
    let shows = look-shown pins c.look-look.result c.args.design.now s (subst (λ t. ShowsNames t s.names) (sym c.look-look.ensures.names) sh.names) sh.design c.look-look.ensures.entries c.look-look.ensures.active in
    let is = c.in_ok-assign.ensures (look_of s) shows fit target value in
    stage-ends pins c.args.names.now c.keep_assign.new.design s by_number c.args.place bs (assigned s.design a.target v.expr) c.keep_assign.result sh.names
    (c.keep_assign.ensures.kept pins s.design a.target v.expr bs sh.design (is.1 ∙ ap (λ n. all_noted n bs) c.new-faults.ensures) is.0)
