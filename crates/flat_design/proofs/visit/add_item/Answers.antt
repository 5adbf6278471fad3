use Rattle.std.proofs.Common.{List, map, sym, subst}
use Rattle.std.specs.Prelude.{All}
use Rattle.verilog_ast.specs.declared.Expr.{Expr}
use Rattle.verilog_ast.specs.declared.ItemBody.{ItemBody}
use Rattle.verilog_reading.specs.ExprTree.{tree_of}
use Rattle.verilog_reading.specs.SourceTree.{body_of, decl_of}
use Rattle.flat_unfolding.specs.Formed.{IsFormed, IsBodyFormed, IsDeclFormed}
use Rattle.flat_unfolding.specs.Wires.{gate_item}
use Rattle.flat_names.specs.Designs.{Meets}
use Rattle.flat_design.specs.Chosen.{chosen_item_of}
use Rattle.flat_design.proofs.visit.add_item.Goals as goal

pub returns-in-Decl-clause-exact : goal.returns-in-Decl-clause-exact
returns-in-Decl-clause-exact c = λ pins s modules visiting prefix inside shows fit formed plain.
    let f : IsDeclFormed (decl_of c.in-Decl.decl) = subst (λ (b : ItemBody). IsBodyFormed (body_of b)) c.in-Decl.is formed in
    subst (λ (b : ItemBody). Meets pins c.args.names.now (chosen_item_of c.args.wires_only modules visiting prefix inside s c.args.place (body_of b)) c.add_declared_value.result c.add_declared_value.new.design) (sym c.in-Decl.is)
    (c.add_declared_value.ensures.exact pins s shows fit f.2)

pub returns-in-Assign-clause-exact : goal.returns-in-Assign-clause-exact
returns-in-Assign-clause-exact c = λ pins s modules visiting prefix inside shows fit formed plain.
    let f = subst (λ (b : ItemBody). IsBodyFormed (body_of b)) c.in-Assign.is formed in
    subst (λ (b : ItemBody). Meets pins c.args.names.now (chosen_item_of c.args.wires_only modules visiting prefix inside s c.args.place (body_of b)) c.add_assign.result c.add_assign.new.design) (sym c.in-Assign.is)
    (c.add_assign.ensures.meets pins s shows fit f.0 f.1)

pub returns-in-Gate-clause-exact : goal.returns-in-Gate-clause-exact
returns-in-Gate-clause-exact c = λ pins s modules visiting prefix inside shows fit formed plain.
    let f : All IsFormed (map tree_of c.in-Gate.terminals) = subst (λ (b : ItemBody). IsBodyFormed (body_of b)) c.in-Gate.is formed in
    subst (λ (b : ItemBody). Meets pins c.args.names.now (chosen_item_of c.args.wires_only modules visiting prefix inside s c.args.place (body_of b)) c.add_gate.result c.add_gate.new.design) (sym c.in-Gate.is)
    (subst (λ (es : List Expr). Meets pins c.args.names.now (gate_item s c.args.place c.in-Gate.kind (map tree_of es)) c.add_gate.result c.add_gate.new.design) c.as_slice.ensures
    (c.add_gate.ensures.meets pins s shows fit (subst (λ (es : List Expr). All IsFormed (map tree_of es)) (sym c.as_slice.ensures) f)))

pub returns-in-Always-clause-exact : goal.returns-in-Always-clause-exact
returns-in-Always-clause-exact c = λ pins s modules visiting prefix inside shows fit formed plain.
    subst (λ (b : ItemBody). Meets pins c.args.names.now (chosen_item_of c.args.wires_only modules visiting prefix inside s c.args.place (body_of b)) c.add_chosen_process.result c.add_chosen_process.new.design) (sym c.in-Always.is)
    (c.add_chosen_process.ensures.exact pins s shows fit (subst (λ (b : ItemBody). IsBodyFormed (body_of b)) c.in-Always.is formed))

pub returns-in-Initial-clause-exact : goal.returns-in-Initial-clause-exact
returns-in-Initial-clause-exact c = λ pins s modules visiting prefix inside shows fit formed plain.
    subst (λ (b : ItemBody). Meets pins c.args.names.now (chosen_item_of c.args.wires_only modules visiting prefix inside s c.args.place (body_of b)) c.add_initial.result c.add_initial.new.design) (sym c.in-Initial.is)
    (c.add_initial.ensures.meets pins s shows fit (subst (λ (b : ItemBody). IsBodyFormed (body_of b)) c.in-Initial.is formed))
