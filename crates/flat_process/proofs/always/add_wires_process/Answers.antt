use Rattle.std.proofs.Common.{◌++◌, ◌∷◌, [], sym, ap, subst, ◌∙◌}
use Rattle.verilog_reading.specs.StmtTree.{stmt_tree_of}
use Rattle.flat_unfolding.specs.Outcome.{by_number}
use Rattle.flat_unfolding.specs.Statements.{of_wires, done}
use Rattle.flat_unfolding.specs.Reads.{latch_rule}
use Rattle.flat_unfolding.specs.Processes.{level_rules, later_rules}
use Rattle.flat_unfolding.specs.Design as u
use Rattle.flat_unfolding.specs.Design.{look_of}
use Rattle.flat_names.specs.Noting.{all_noted}
use Rattle.flat_names.specs.Designs.{ShowsNames}
use Rattle.flat_process.proofs.Ended.{look-shown, stage-ends}
use Rattle.flat_process.proofs.Processes.{body-amid}
use Rattle.flat_process.proofs.always.add_wires_process.Goals as goal

pub returns-clause-meets : goal.returns-clause-meets
returns-clause-meets c = λ pins s sh fit formed.
    let l = look_of s in
    let d = done l of_wires (stmt_tree_of c.args.body.now) in
    let later = later_rules (stmt_tree_of c.args.body.now) in
    let latches = latch_rule l.entries d.stmt in
    let listed = level_rules l c.args.event.now (stmt_tree_of c.args.body.now) in
    let bs = listed ++ d.broken ++ later ++ latches in
    let next : u.Design = record s.design { combs = s.design.combs ++ d.stmt ∷ [] } in
    let shows = look-shown pins c.look-look.result c.args.design.now s (subst (λ t. ShowsNames t s.names) (sym c.look-look.ensures.names) sh.names) sh.design c.look-look.ensures.entries c.look-look.ensures.active in
    let is = c.in_ok-body.ensures l shows fit (c.look-look.ensures.signals ∙ sh.design.signals) formed in
    stage-ends pins c.args.names.now c.keep_wires_process.new.design s by_number c.args.place bs next c.keep_wires_process.result sh.names
    (c.keep_wires_process.ensures.kept pins s.design d.stmt bs sh.design (is.1 ∙ ap (λ n. all_noted n bs) c.new-faults.ensures) (body-amid d.stmt [] (listed ++ d.broken ++ later) latches c.in_ok-body.body (body-amid d.stmt listed d.broken later c.in_ok-body.body is.0)))
