-- Campaigns: eight lanes, and the first capture that one of them shows.
use Rattle.std.specs.Prelude.{◌≡◌, ℕ, zero, suc, ◌+◌, ◌==◌, ◌&&◌, ◌||◌, Bool, cond, not, nat_lt, Option, Some, None, List, [], ◌∷◌, ◌++◌, length}
use Rattle.std.specs.Bool.{beq}
use Rattle.std.specs.List.{find, flat_map}
use Rattle.cdc_base.specs.declared.bit.Bit.{Bit}
use Rattle.cell_graph.specs.declared.net.Net.{Net}
use Rattle.cell_graph.specs.Reading.{bit_eq, Reading}
use Rattle.domains.specs.declared.Domains.{Domains}
use Rattle.cdc_model.specs.declared.record.Race.{Race}
use Rattle.cdc_model.specs.declared.record.RecordStep.{RecordStep}
use Rattle.cdc_model.specs.declared.scheme.Crossing.{Crossing}
use Rattle.cdc_model.specs.Design.{Design, flipped}
use Rattle.cdc_model.specs.Nets.{design_of}
use Rattle.cdc_model.specs.Replay.{has_bit, has_edge, is_loose, opened, stepped}
use Rattle.cdc_model.specs.Runs.{State, ticks}
use Rattle.campaign.specs.declared.found.Found.{Found}
use Rattle.campaign.specs.declared.toss.Toss.{Toss}
use Rattle.campaign.specs.Draws.{seeded}
use Rattle.campaign.specs.Drawn.{Drawn, draw, step_of, step_with, race_of_toss}
use Rattle.campaign.specs.Plan.{AreNamed, pairs_of}

-- A lane at a moment: its generator, and the state of its run.
pub record Lane : Type 0 where
  pub rng : List ℕ
  pub state : State

abbrev pub first_lane : Net → Domains → ℕ → Lane
first_lane net domains seed = record { rng = seeded seed; state = opened (design_of net domains) [] }

-- what the lane draws for the step with this number
abbrev pub draw_of : Net → Domains → List ℕ → ℕ → Lane → Drawn
draw_of net domains named number lane = draw net domains named number lane.state lane.rng

-- the lane behind these draws
abbrev pub lane_behind : Net → Domains → Lane → Drawn → Lane
lane_behind net domains lane k = record { rng = k.rng; state = stepped (design_of net domains) lane.state (step_of k) }

-- the lane after n steps; steps count from 1
unfoldable pub lane_after : Net → Domains → List ℕ → (seed n : ℕ) → Lane
lane_after net domains named seed zero = first_lane net domains seed
lane_after net domains named seed (suc n) =
    lane_behind net domains (lane_after net domains named seed n) (draw_of net domains named (suc n) (lane_after net domains named seed n))

-- what the lane draws for its step behind n others
abbrev pub draw_after : Net → Domains → List ℕ → (seed n : ℕ) → Drawn
draw_after net domains named seed n = draw_of net domains named (suc n) (lane_after net domains named seed n)

-- its first n steps
unfoldable pub steps_of : Net → Domains → List ℕ → (seed n : ℕ) → List RecordStep
steps_of net domains named seed zero = []
steps_of net domains named seed (suc n) = steps_of net domains named seed n ++ step_of (draw_after net domains named seed n) ∷ []

-- a ticking bit reads a bit that is loose for it, and would take another value by the other value of that bit
abbrev pub captures : Design → List ℕ → State → Reading → Crossing → Bool
captures d edges old new c = ticks d (has_edge edges) c.to
    && (is_loose d old new c.to c.from && not (beq (d.next (flipped (has_bit (c.from ∷ [])) old.values) c.to) (d.next old.values c.to)))

-- the first capture in a step, by reader, then by bit
unfoldable pub capture_in : Net → Domains → State → Drawn → Option Crossing
capture_in net domains s k = find (captures (design_of net domains) k.edges s (stepped (design_of net domains) s (step_of k)).values) (pairs_of net domains)

-- the bit stands before the other one
abbrev pub is_before : Bit → Bit → Bool
is_before a b = nat_lt a.sig b.sig || ((a.sig == b.sig) && nat_lt a.at b.at)

-- the race of a toss, if it stays
abbrev pub race_if : Bool → Toss → List Race
race_if stays t = cond stays (race_of_toss t ∷ []) []

-- the races of settling flops before x, and behind it, but of those that copy x
abbrev pub races_before : Bit → List Toss → List Race
races_before x ts = flat_map (λ t. race_if (is_before t.flop x && not (bit_eq t.source x)) t) ts

abbrev pub races_behind : Bit → List Toss → List Race
races_behind x ts = flat_map (λ t. race_if (is_before x t.flop && not (bit_eq t.source x)) t) ts

-- the race in which x captures b
abbrev pub own_race : Crossing → Race
own_race c = record { bit = c.to; flip = c.from ∷ []; other = None }

-- the races of the step in which x captures b, by bit
abbrev pub captured_races : List Toss → Crossing → List Race
captured_races ts c = (races_before c.to ts ++ own_race c ∷ []) ++ races_behind c.to ts

-- the step in which x captures b
abbrev pub captured_step : Drawn → Crossing → RecordStep
captured_step k c = step_with k.edges k.inputs (captured_races k.tosses c)

-- what is found: the run up to the capture, with the bit that captures and the one that it captures
abbrev pub found_by : Net → Domains → List ℕ → (seed n : ℕ) → Crossing → Found
found_by net domains named seed n c = record {
  run = record { start = []; steps = steps_of net domains named seed n ++ captured_step (draw_after net domains named seed n) c ∷ [] };
  to = c.to;
  from = c.from;
}

-- the capture that a lane shows in its step behind n others
unfoldable pub capture_after : Net → Domains → List ℕ → (seed n : ℕ) → Option Crossing
capture_after net domains named seed n = capture_in net domains (lane_after net domains named seed n).state (draw_after net domains named seed n)

-- the first of two that is there
abbrev pub or_found : Option Found → Option Found → Option Found
or_found (Some f) other = Some f
or_found None other = other

abbrev pub found_of : Net → Domains → List ℕ → (seed n : ℕ) → Option Crossing → Option Found
found_of net domains named seed n None = None
found_of net domains named seed n (Some c) = Some (found_by net domains named seed n c)

-- the first of m lanes, from a seed on, that shows a capture in the step behind n others
unfoldable pub in_lanes : Net → Domains → List ℕ → (n seed m : ℕ) → Option Found
in_lanes net domains named n seed zero = None
in_lanes net domains named n seed (suc m) =
    or_found (found_of net domains named seed n (capture_after net domains named seed n)) (in_lanes net domains named n (seed + 1) m)

-- the first of m steps, behind n others, in which a lane shows one
unfoldable pub in_steps : Net → Domains → List ℕ → (seed n m : ℕ) → Option Found
in_steps net domains named seed n zero = None
in_steps net domains named seed n (suc m) = or_found (in_lanes net domains named n seed 8) (in_steps net domains named seed (suc n) m)

-- what a campaign finds; a design without clocks has no steps
unfoldable pub campaign : Net → Domains → List ℕ → (steps seed : ℕ) → Option Found
campaign net domains named steps seed = cond (length domains.clocks == 0) None (in_steps net domains named seed 0 steps)

-- the answer of a campaign, whose steps have their inputs in the order of names
pub record IsAnswer (net : Net) (domains : Domains) (steps seed : ℕ) (found : Option Found) : Type 0 where
  pub named : List ℕ
  pub are_named : AreNamed net domains named
  pub first : found ≡ campaign net domains named steps seed
