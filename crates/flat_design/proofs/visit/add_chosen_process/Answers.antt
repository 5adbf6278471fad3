use Rattle.std.proofs.Common.{Bool, sym, subst}
use Rattle.verilog_reading.specs.StmtTree.{stmt_tree_of}
use Rattle.verilog_reading.specs.SourceTree.{always}
use Rattle.flat_unfolding.specs.Processes.{always_item}
use Rattle.flat_names.specs.Designs.{Meets}
use Rattle.flat_design.specs.Chosen.{chosen}
use Rattle.flat_design.proofs.visit.add_chosen_process.Goals as goal

pub returns-clause-exact : goal.returns-clause-exact
returns-clause-exact c = λ pins s shows fit formed.
    let event = c.args.event.now in let body = stmt_tree_of c.args.body.now in
    subst (λ (b : Bool). Meets pins c.args.names.now (chosen (always event body) b (always_item s c.args.place event body) s) c.add_process.result c.add_process.new.design) (sym c.if-wires_only.false)
    (c.add_process.ensures.meets pins s shows fit formed)
