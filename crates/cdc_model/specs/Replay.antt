-- The run that a record fixes, and the first cause for which a step is refused.
use Rattle.std.specs.Prelude.{◌≡◌, ℕ, suc, ◌<◌, ◌/◌, ◌^◌, ◌%◌, Bool, true, false, cond, not, ◌&&◌, ◌||◌, ◌==◌, nat_lt, Option, Some, None, List, [], ◌∷◌, is_some, Contains, ◌≢◌}
use Rattle.std.specs.Bool.{beq}
use Rattle.std.specs.List.{list_any, find}
use Rattle.cdc_base.specs.declared.bit.Bit.{Bit}
use Rattle.cell_graph.specs.Reading.{bit_eq, Reading}
use Rattle.cdc_model.specs.declared.record.Given.{Given}
use Rattle.cdc_model.specs.declared.record.Race.{Race}
use Rattle.cdc_model.specs.declared.record.Record.{Record}
use Rattle.cdc_model.specs.declared.record.RecordStep.{RecordStep}
use Rattle.cdc_model.specs.Design.{Design, are_async, are_equal, at_bit, flipped}
use Rattle.cdc_model.specs.Runs.{State, Trace, Start, Then, now, ticks, AreLoose, left_by}

-- the bit is one of the list
abbrev pub has_bit : List Bit → Bit → Bool
has_bit bs b = list_any (λ a. bit_eq a b) bs

-- the clock is one of the list
abbrev pub has_edge : List ℕ → ℕ → Bool
has_edge edges c = list_any (λ e. e == c) edges

-- the bit of its signal's given value, or else v
abbrev pub given_to : List Given → Bit → Bool → Bool
given_to [] b v = v
given_to (g ∷ gs) b v = cond (g.sig == b.sig) ((g.value / 2 ^ b.at) % 2 == 1) (given_to gs b v)

-- the known value, or else v
abbrev pub known_or : Option Bool → Bool → Bool
known_or None v = v
known_or (Some w) v = w

-- the first state: known start values, given ones, and 0 for any other bit
abbrev pub opened : Design → List Given → State
opened d start = record { values = λ b. known_or (d.start b) (given_to start b false); left = λ b. 0 }

-- the race of the bit, if it has one
abbrev pub race_of : List Race → Bit → Option Race
race_of races x = find (λ r. bit_eq r.bit x) races

-- the bits that it flips
abbrev pub flips_of : Option Race → Bit → Bool
flips_of None b = false
flips_of (Some r) b = has_bit r.flip b

-- the bits that give the other value
abbrev pub other_of : Option Race → Option (List Bit)
other_of None = None
other_of (Some r) = r.other

-- what a ticking bit takes: a register bit with its race's bits flipped, an input its given value or its own
abbrev pub next_value : Design → State → RecordStep → Bit → Bool
next_value d s k b = cond (d.is_register b) (d.next (flipped (flips_of (race_of k.races b)) s.values) b) (cond (d.is_input b) (given_to k.inputs b (s.values b)) (s.values b))

-- the cycles that a ticking register bit needs: none, unless its race has other bits
abbrev pub next_left : Design → State → RecordStep → Bit → ℕ
next_left d s k b = cond (is_some (other_of (race_of k.races b))) (left_by d s b (d.copied b)) 0

-- the state to which the step leads
abbrev pub stepped : Design → State → RecordStep → State
stepped d s k = record {
  values = λ b. cond (ticks d (has_edge k.edges) b) (next_value d s k b) (s.values b);
  left = λ b. cond (d.is_register b) (cond (ticks d (has_edge k.edges) b) (next_left d s k b) (s.left b)) 0;
}

-- x copies b on its own clock, and b needs one cycle more
abbrev pub is_settling_for : Design → State → Bit → Bit → Bool
is_settling_for d s x b = are_equal (d.clock b) (d.clock x) && (at_bit (d.copied x) (λ a. bit_eq a b) && (s.left b == 1))

-- x may sample b either way
abbrev pub is_loose : Design → State → Reading → Bit → Bit → Bool
is_loose d s t x b = (are_async d b x && not (beq (s.values b) (t b))) || (nat_lt 0 (s.left b) && not (is_settling_for d s x b))

-- why a step is refused: no clock ticks; that of an input or a race doesn't; a flipped bit isn't loose; or the other bits give the same value
pub data StepFault : Type 0 where
  NoEdge : StepFault
  Unticked : Bit → StepFault
  NotLoose : Bit → Bit → StepFault
  NotOther : Bit → StepFault

-- the first of two faults
abbrev pub or_else : Option StepFault → Option StepFault → Option StepFault
or_else None f = f
or_else (Some f) g = Some f

-- the first fault in the order of a list
abbrev pub first_fault : {A : Type 0} → (A → Option StepFault) → List A → Option StepFault
first_fault f [] = None
first_fault f (x ∷ xs) = or_else (f x) (first_fault f xs)

-- the fault, unless the test holds
abbrev pub unless : Bool → StepFault → Option StepFault
unless t f = cond t None (Some f)

-- some clock ticks
abbrev pub any_edge : List ℕ → Bool
any_edge [] = false
any_edge (e ∷ es) = true

-- an input's clock doesn't tick
abbrev pub input_fault : Design → RecordStep → Given → Option StepFault
input_fault d k g = unless (ticks d (has_edge k.edges) (record { sig = g.sig; at = 0 })) (Unticked (record { sig = g.sig; at = 0 }))

-- a race's clock doesn't tick
abbrev pub tick_fault : Design → RecordStep → Race → Option StepFault
tick_fault d k r = unless (ticks d (has_edge k.edges) r.bit) (Unticked r.bit)

-- the first bit that isn't loose for x
abbrev pub loose_fault : Design → State → Reading → Bit → List Bit → Option StepFault
loose_fault d s t x bs = first_fault (λ b. unless (is_loose d s t x b) (NotLoose x b)) bs

-- the fault of a list that is there
abbrev pub on_list : Option (List Bit) → (List Bit → Option StepFault) → Option StepFault
on_list None f = None
on_list (Some bs) f = f bs

-- the first bit of a race that isn't loose, flipped ones before other ones
abbrev pub race_fault : Design → State → Reading → Race → Option StepFault
race_fault d s t r = or_else (loose_fault d s t r.bit r.flip) (on_list r.other (λ bs. loose_fault d s t r.bit bs))

-- the other bits give the value that the flipped ones give
abbrev pub other_fault : Design → State → Reading → Race → Option StepFault
other_fault d s t r = on_list r.other (λ bs. unless (not (beq (d.next (flipped (has_bit bs) s.values) r.bit) (t r.bit))) (NotOther r.bit))

-- the first fault of a step; each cause is tried for the whole step before the next one
abbrev pub step_fault : Design → State → RecordStep → Option StepFault
step_fault d s k =
    or_else (unless (any_edge k.edges) NoEdge)
    (or_else (first_fault (input_fault d k) k.inputs)
    (or_else (first_fault (tick_fault d k) k.races)
    (or_else (first_fault (race_fault d s (stepped d s k).values) k.races)
    (first_fault (other_fault d s (stepped d s k).values) k.races))))

-- A run, or the number of the first step that is refused and why.
pub data Replayed : Type 0 where
  Ran : Trace → Replayed
  Refused : ℕ → StepFault → Replayed

-- a refusal of step n, or what comes after it
abbrev pub on_fault : Option StepFault → ℕ → Replayed → Replayed
on_fault None n more = more
on_fault (Some f) n more = Refused n f

-- the steps from number n on
abbrev pub replayed_from : Design → ℕ → Trace → List RecordStep → Replayed
replayed_from d n run [] = Ran run
replayed_from d n run (k ∷ ks) = on_fault (step_fault d (now run) k) n (replayed_from d (suc n) (Then run (has_edge k.edges) (stepped d (now run) k)) ks)

-- the run that the record fixes; steps count from 1
abbrev pub replayed : Design → Record → Replayed
replayed d r = replayed_from d 1 (Start (opened d r.start)) r.steps

-- The clocks that a step names are clocks of the design.
pub record AreClocks (d : Design) (k : RecordStep) : Type 0 where
  pub edges : (c : ℕ) → has_edge k.edges c ≡ true → c < d.clocks

-- A step is fixed: some clock ticks, and those of its inputs and races; what races flip is loose; and the other bits give another value.
pub record IsFixedStep (d : Design) (s : State) (k : RecordStep) : Type 0 where
  pub edge : any_edge k.edges ≡ true
  pub inputs_tick : (g : Given) → Contains k.inputs g → ticks d (has_edge k.edges) (record { sig = g.sig; at = 0 }) ≡ true
  pub races_tick : (r : Race) → Contains k.races r → ticks d (has_edge k.edges) r.bit ≡ true
  pub flips : (r : Race) → Contains k.races r → AreLoose d s (stepped d s k).values r.bit (has_bit r.flip)
  pub others : (r : Race) (bs : List Bit) → Contains k.races r → r.other ≡ Some bs
      → AreLoose d s (stepped d s k).values r.bit (has_bit bs) × (d.next (flipped (has_bit bs) s.values) r.bit ≢ (stepped d s k).values r.bit)
