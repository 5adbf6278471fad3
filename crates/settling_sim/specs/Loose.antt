-- What a step must meet, by the tables of a run.
use Rattle.std.specs.Prelude.{ℕ, ◌==◌, nat_lt, ◌-◌, Bool, true, cond, not, ◌&&◌, ◌||◌, Option, Some, None, List}
use Rattle.std.specs.Bool.{beq}
use Rattle.cdc_base.specs.declared.bit.Bit.{Bit}
use Rattle.cell_graph.specs.Reading.{bit_eq}
use Rattle.cell_graph.specs.Values.{reading_of}
use Rattle.domains.specs.declared.Domains.{Domains}
use Rattle.domains.specs.Assignment.{clock_of, group_of}
use Rattle.cdc_model.specs.declared.record.Given.{Given}
use Rattle.cdc_model.specs.declared.record.Race.{Race}
use Rattle.cdc_model.specs.Design.{differ, are_equal, at_bit}
use Rattle.cdc_model.specs.Nets.{settle_at}
use Rattle.cdc_model.specs.Replay.{StepFault, Unticked, NotLoose, NotOther, or_else, first_fault, unless, on_list}
use Rattle.settling_sim.specs.declared.cycles.Cycles.{Cycles}
use Rattle.settling_sim.specs.Cycles.{cycles_of}
use Rattle.settling_sim.specs.Edges.{is_marked}

-- an input's clock, or a race's, isn't marked
abbrev pub input_unmarked : Domains → List Bool → Given → Option StepFault
input_unmarked domains ticking g = unless (is_marked ticking (clock_of domains (record { sig = g.sig; at = 0 }))) (Unticked (record { sig = g.sig; at = 0 }))

abbrev pub race_unmarked : Domains → List Bool → Race → Option StepFault
race_unmarked domains ticking r = unless (is_marked ticking (clock_of domains r.bit)) (Unticked r.bit)

-- x copies b on its own clock, and b needs one cycle more
abbrev pub is_settling_in : Domains → (Bit → Option Bit) → List Cycles → Bit → Bit → Bool
is_settling_in domains copied cycles x b = are_equal (clock_of domains b) (clock_of domains x) && (at_bit (copied x) (λ a. bit_eq a b) && (cycles_of cycles b == 1))

-- x may sample b either way
abbrev pub is_loose_in : Domains → (Bit → Option Bit) → List ℕ → List Cycles → List ℕ → Bit → Bit → Bool
is_loose_in domains copied words cycles after x b =
    (differ (group_of domains b) (group_of domains x) && not (beq (reading_of words b) (reading_of after b)))
    || (nat_lt 0 (cycles_of cycles b) && not (is_settling_in domains copied cycles x b))

-- the first bit of a list, and of a race, that isn't loose by a test
abbrev pub list_fault : (Bit → Bit → Bool) → Bit → List Bit → Option StepFault
list_fault loose x bs = first_fault (λ b. unless (loose x b) (NotLoose x b)) bs

abbrev pub race_fault_by : (Bit → Bit → Bool) → Race → Option StepFault
race_fault_by loose r = or_else (list_fault loose r.bit r.flip) (on_list r.other (λ bs. list_fault loose r.bit bs))

-- the race's other bits give the value that its bit takes, by a function that says what a list of flipped bits gives
abbrev pub same_fault : (List Bit → Bit → Bool) → List ℕ → Race → Option StepFault
same_fault next after r = on_list r.other (λ bs. unless (not (beq (next bs r.bit) (reading_of after r.bit))) (NotOther r.bit))

-- the cycles that an unsettled bit needs
abbrev pub needed_by : Domains → List Cycles → Bit → Option Bit → ℕ
needed_by domains cycles x None = settle_at domains (clock_of domains x)
needed_by domains cycles x (Some b) = cond (are_equal (clock_of domains b) (clock_of domains x)) (cycles_of cycles b - 1) (settle_at domains (clock_of domains x))
