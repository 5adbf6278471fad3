use Rattle.std.proofs.Common.{Bool, cond, List, sym, subst, ◌∙◌}
use Rattle.verilog_ast.specs.declared.Edge.{Edge}
use Rattle.verilog_reading.specs.StmtTree.{stmt_tree_of}
use Rattle.flat_unfolding.specs.Processes.{edges_of, wires_process, clocked_process}
use Rattle.flat_names.specs.Designs.{Meets}
use Rattle.flat_process.proofs.always.add_process.Goals as goal

pub returns-then-is_of_wires-clause-meets : goal.returns-then-is_of_wires-clause-meets
returns-then-is_of_wires-clause-meets c = λ pins s sh fit formed.
    let e = c.args.event.now in let t = stmt_tree_of c.args.body.now in
    subst (λ (b : Bool). Meets pins c.args.names.now (cond b (wires_process s c.args.place e t) (clocked_process s c.args.place (edges_of e) t)) c.add_wires_process.result c.add_wires_process.new.design)
    (sym c.if-is_of_wires.true ∙ c.is_of_wires.ensures) (c.add_wires_process.ensures.meets pins s sh fit formed)

pub returns-else-is_of_wires-clause-meets : goal.returns-else-is_of_wires-clause-meets
returns-else-is_of_wires-clause-meets c = λ pins s sh fit formed.
    let e = c.args.event.now in let t = stmt_tree_of c.args.body.now in
    subst (λ (b : Bool). Meets pins c.args.names.now (cond b (wires_process s c.args.place e t) (clocked_process s c.args.place (edges_of e) t)) c.add_clocked_process.result c.add_clocked_process.new.design)
    (sym c.if-is_of_wires.false ∙ c.is_of_wires.ensures)
    (subst (λ (es : List Edge). Meets pins c.args.names.now (clocked_process s c.args.place es t) c.add_clocked_process.result c.add_clocked_process.new.design) c.edges_of.ensures
    (c.add_clocked_process.ensures.meets pins s sh fit formed))
