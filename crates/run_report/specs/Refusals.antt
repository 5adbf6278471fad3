-- The refusals of steps.
use Rattle.std.specs.Prelude.{ℕ, List, [], ◌∷◌, ◌++◌, codes}
use Rattle.std.specs.Fmt.{decimal}
use Rattle.cdc_base.specs.declared.signal.Signal.{Signal}
use Rattle.settling_sim.specs.declared.fault.StepFault.{StepFault}
use Rattle.settling_sim.specs.declared.fault.StepFault.TheVariants.{NoEdge, Unticked, NotLoose, NotOther}
use Rattle.report.specs.Names.{bit_of}

-- the numbers of the rules of steps
abbrev pub step_numbers : List ℕ
step_numbers = 504 ∷ 505 ∷ 506 ∷ 507 ∷ []

abbrev pub number_of : StepFault → ℕ
number_of NoEdge = 506
number_of (Unticked x) = 507
number_of (NotLoose x b) = 504
number_of (NotOther x) = 505

-- the step, and the bits concerned
abbrev pub name_of : List Signal → ℕ → StepFault → List ℕ
name_of signals step NoEdge = codes "step " ++ decimal step
name_of signals step (Unticked x) = (codes "step " ++ decimal step) ++ (codes " " ++ bit_of signals x)
name_of signals step (NotLoose x b) = ((codes "step " ++ decimal step) ++ (codes " " ++ bit_of signals x)) ++ (codes " " ++ bit_of signals b)
name_of signals step (NotOther x) = (codes "step " ++ decimal step) ++ (codes " " ++ bit_of signals x)
