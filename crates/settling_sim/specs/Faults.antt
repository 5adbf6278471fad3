-- The refusals of a step.
use Rattle.std.specs.Prelude.{◌≡◌, Option, Some, None, Result, Ok, Err, ⊤}
use Rattle.cdc_base.specs.declared.bit.Bit.{Bit}
use Rattle.cdc_model.specs.Replay as model
use Rattle.settling_sim.specs.declared.fault.StepFault.{StepFault}
use Rattle.settling_sim.specs.declared.fault.StepFault.TheVariants.{NoEdge, Unticked, NotLoose, NotOther}

-- the fault of the model that a refusal stands for
abbrev pub meant : StepFault → model.StepFault
meant NoEdge = model.NoEdge
meant (Unticked x) = model.Unticked x
meant (NotLoose x b) = model.NotLoose x b
meant (NotOther x) = model.NotOther x

-- Ok where there is no fault, and else a refusal by it
abbrev pub Refuses : Result ⊤ StepFault → Option model.StepFault → Type 0
Refuses (Ok done) fault = fault ≡ None
Refuses (Err f) fault = fault ≡ Some (meant f)
