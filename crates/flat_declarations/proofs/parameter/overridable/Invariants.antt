use Rattle.std.proofs.Common.{◌≡◌, ◌++◌, ◌∷◌, [], cond}
use Rattle.std.specs.Prelude.{flat_map}
use Rattle.cdc_base.specs.declared.fault.Place.{Place}
use Rattle.verilog_reading.specs.SourceTree.{ParamTree, module_of}
use Rattle.flat_unfolding.specs.Parameters.{overridable}
use Rattle.flat_declarations.proofs.Walks.{params_left, inner_left}
use Rattle.flat_declarations.proofs.parameter.overridable.Given as goal

abbrev pub invariant-loop-param : goal.invariant-loop-param
invariant-loop-param l = overridable (module_of l.module) ≡ l.names.items ++ flat_map (λ (q : Place × ParamTree). cond q.1.local [] (q.1.name ∷ [])) (params_left l.module l.param-index)

abbrev pub invariant-loop-item : goal.invariant-loop-item
invariant-loop-item l = overridable (module_of l.module) ≡ l.names.items ++ flat_map (λ (q : Place × ParamTree). cond q.1.local [] (q.1.name ∷ [])) (inner_left l.module l.item-index)
