use Rattle.std.proofs.Common.{List}
use Rattle.cdc_base.specs.declared.fault.Place.{Place}
use Rattle.cdc_base.specs.declared.signal.ResetPin.{ResetPin}
use Rattle.verilog_reading.specs.SourceTree.{ParamTree, module_of}
use Rattle.flat_unfolding.specs.Outcome.{good, each}
use Rattle.flat_unfolding.specs.Parameters.{Overrides, parameter, parameters}
use Rattle.flat_unfolding.specs.Design.{Stage, look_of}
use Rattle.flat_unfolding.specs.Formed.{IsParamFormed, IsModuleFormed}
use Rattle.flat_names.specs.Looks.{IsFit}
use Rattle.flat_names.specs.Designs.{ShowsStage}
use Rattle.flat_declarations.specs.Declaring.{ShowsOverrides, AreFitOverrides}
use Rattle.flat_declarations.proofs.Ended.{IsWalk}
use Rattle.flat_declarations.proofs.Walks.{params_left, inner_left}
use Rattle.flat_declarations.proofs.parameter.add_parameters.Given as goal

abbrev pub invariant-loop-param : goal.invariant-loop-param
invariant-loop-param l = (pins : List ResetPin) (s : Stage) (given : Overrides) → ShowsStage pins l.initial.names l.design s → IsFit (look_of s) → ShowsOverrides l.overrides given → AreFitOverrides given
    → IsModuleFormed (module_of l.module)
    → IsWalk pins (parameters given (module_of l.module) s) (parameter given) (λ t. good t) (λ (q : Place × ParamTree). IsParamFormed q.1) l.names l.design (params_left l.module l.param-index)

-- from the stage that the first loop reaches
abbrev pub invariant-loop-item : goal.invariant-loop-item
invariant-loop-item l = (pins : List ResetPin) (s : Stage) (given : Overrides) → ShowsStage pins l.initial.names l.design s → IsFit (look_of s) → ShowsOverrides l.overrides given → AreFitOverrides given
    → IsModuleFormed (module_of l.module)
    → IsWalk pins (each (parameter given) s (inner_left l.module 0)) (parameter given) (λ t. good t) (λ (q : Place × ParamTree). IsParamFormed q.1) l.names l.design (inner_left l.module l.item-index)
