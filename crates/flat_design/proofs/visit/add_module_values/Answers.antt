use Rattle.std.proofs.Common.{◌≡◌, List, map, sym, subst, ◌∙◌}
use Rattle.std.specs.Prelude.{All}
use Rattle.verilog_ast.specs.declared.Module.{Module}
use Rattle.verilog_ast.specs.declared.Port.{Port}
use Rattle.verilog_reading.specs.SourceTree.{port_of, module_of}
use Rattle.flat_unfolding.specs.Formed.{IsPortFormed, IsModuleFormed}
use Rattle.flat_unfolding.specs.Unfolding.{header_values}
use Rattle.flat_unfolding.proofs.Steps.{some_is}
use Rattle.flat_names.specs.Designs.{Meets}
use Rattle.flat_design.proofs.HeaderValues.{values_of}
use Rattle.flat_design.proofs.visit.add_module_values.Goals as goal

pub returns-clause-exact : goal.returns-clause-exact
returns-clause-exact c = λ pins m s at formed shows fit.
    let q = c.in-Some.found.now in let names = c.args.names.now in let new = c.add_header_values.new.design in let result = c.add_header_values.result in
    let same : q ≡ m = some_is q m (c.in-Some.ensures ∙ at) in
    let ports = (subst (λ (z : Module). IsModuleFormed (module_of z)) (sym same) formed).ports in
    subst (λ (z : Module). Meets pins names (header_values (module_of z) s) result new) same
    (subst (λ (ps : List Port). Meets pins names (values_of q.place (map port_of ps) s) result new) c.as_slice.ensures
    (c.add_header_values.ensures.exact pins s shows fit (subst (λ (ps : List Port). All IsPortFormed (map port_of ps)) (sym c.as_slice.ensures) ports)))
