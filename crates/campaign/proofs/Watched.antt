-- A pair that isn't watched never shows a capture, since all bits but settling flops stay settled.
use Rattle.std.proofs.Common.{◌≡◌, ◌∙◌, ℕ, zero, suc, Bool, true, false, cond, not, ◌&&◌, ◌||◌, nat_lt, List, [], ◌∷◌, map, length, Contains, Option, Some, None, refl, sym, ap, ap₂}
use Rattle.std.specs.Prelude.{filter, is_some}
use Rattle.std.specs.Bool.{beq}
use Rattle.std.specs.List.{find}
use Rattle.std.proofs.lemmas.Bool.{both_ways}
use Rattle.cdc_base.specs.declared.bit.Bit.{Bit}
use Rattle.cell_graph.specs.declared.net.Net.{Net}
use Rattle.cell_graph.specs.Values.{reading_of}
use Rattle.domains.specs.declared.Domains.{Domains}
use Rattle.domains.specs.Assignment.{clock_of, group_of}
use Rattle.cdc_model.specs.declared.record.Given.{Given}
use Rattle.cdc_model.specs.declared.record.Race.{Race}
use Rattle.cdc_model.specs.declared.scheme.Crossing.{Crossing}
use Rattle.cdc_model.specs.Design.{Design, differ}
use Rattle.cdc_model.specs.Nets.{design_of}
use Rattle.cdc_model.specs.Replay.{has_edge, next_left, other_of, race_of, stepped}
use Rattle.cdc_model.specs.Runs.{State, left_by, ticks}
use Rattle.cdc_model.proofs.Ascending.{from_filter, here, later}
use Rattle.settling_sim.specs.declared.cycles.Cycles.{Cycles}
use Rattle.settling_sim.specs.Cycles.{cycles_of}
use Rattle.settling_sim.specs.Edges.{is_marked}
use Rattle.settling_sim.specs.Loose.{is_settling_in}
use Rattle.settling_sim.specs.Reader.{next_with}
use Rattle.campaign.specs.Campaign.{lane_after}
use Rattle.campaign.specs.Drawn.{draw, inputs_in, is_torn, race_of_toss, step_of, step_with, torn_in, toss, values_in}
use Rattle.campaign.specs.Draws.{behind_all, with_words}
use Rattle.campaign.specs.Edges.{behind_edges, edges_of}
use Rattle.campaign.specs.Plan.{flops_of, is_watched, settles}
use Rattle.campaign.specs.Run.{CanRun}
use Rattle.campaign.specs.Torn.{shows_in}
use Rattle.campaign.proofs.FlopRaces.{race-none}
use Rattle.campaign.proofs.Members.{flop-is}

-- what is found among all items is found among those that pass a test, where no others are sought
pub find-among : {A : Type 0} (sought passes : A → Bool) (xs : List A) → ((x : A) → Contains xs x → passes x ≡ false → sought x ≡ false) → find sought (filter passes xs) ≡ find sought xs
find-among sought passes [] h = refl
find-among sought passes (x ∷ xs) h = go (passes x) refl (find-among sought passes xs (λ y i. h y (later x xs y i)))
  where
    go : (t : Bool) → passes x ≡ t → find sought (filter passes xs) ≡ find sought xs → find sought (cond t (x ∷ filter passes xs) (filter passes xs)) ≡ cond (sought x) (Some x) (find sought xs)
    go true e ih = ap (λ o. cond (sought x) (Some x) o) ih
    go false e ih = ih ∙ sym (ap (λ t. cond t (Some x) (find sought xs)) (h x (here x xs) e))

neither : (a b : Bool) → (a || b) ≡ false → (a ≡ false) × (b ≡ false)
neither true b h = cc
neither false b h = (refl, h)

-- a bit that needs no cycles before a step and has no race in it needs none behind it
none-left : (register ticking : Bool) (m n : ℕ) → m ≡ 0 → n ≡ 0 → cond register (cond ticking m n) 0 ≡ 0
none-left true true m n e f = e
none-left true false m n e f = f
none-left false ticking m n e f = refl

nothing : (marked other : Bool) (q r : Bool) → ((marked && ((false && q) || (false && r))) && other) ≡ false
nothing true other q r = refl
nothing false other q r = refl

module _ (net : Net) (domains : Domains) (can : CanRun net domains) (named : List ℕ) where
  abbrev d : Design
  d = design_of net domains

  -- settling flops alone have races
  no-race : (edges : List ℕ) (inputs : List Given) (s : State) (rng : List ℕ) (b : Bit) → settles net domains b ≡ false
      → race_of (map race_of_toss (with_words toss rng (torn_in net domains edges inputs s))) b ≡ None
  no-race edges inputs s rng b h = race-none (torn_in net domains edges inputs s) rng b (λ c i e.
      let among = (from_filter (is_torn d edges s (stepped d s (step_with edges inputs [])).values) (flops_of net domains) c i).0 in
      let flop = (flop-is net domains can.is can.has can.opens.cells c among).1 in
      both_ways (settles net domains b) h (ap (settles net domains) (sym e) ∙ flop))

  calm-step : (number : ℕ) (s : State) (rng : List ℕ) (b : Bit) → settles net domains b ≡ false → s.left b ≡ 0
      → (stepped d s (step_of (draw net domains named number s rng))).left b ≡ 0
  unfolding draw
  calm-step number s rng b h rest =
      let edges = edges_of domains number rng in
      let rng1 = behind_edges number rng in
      let inputs = values_in net domains named edges rng1 in
      let races = map race_of_toss (with_words toss (behind_all (length (inputs_in net domains edges)) rng1) (torn_in net domains edges inputs s)) in
      none-left (d.is_register b) (ticks d (has_edge edges) b) (next_left d s (step_with edges inputs races) b) (s.left b)
      (ap (λ (r : Option Race). cond (is_some (other_of r)) (left_by d s b (d.copied b)) 0) (no-race edges inputs s (behind_all (length (inputs_in net domains edges)) rng1) b h)) rest

  -- all bits but settling flops stay settled
  pub lane-calm : (seed n : ℕ) (b : Bit) → settles net domains b ≡ false → (lane_after net domains named seed n).state.left b ≡ 0
  unfolding lane_after
  lane-calm seed zero b h = refl
  lane-calm seed (suc n) b h = calm-step (suc n) (lane_after net domains named seed n).state (lane_after net domains named seed n).rng b h (lane-calm seed n b h)

  -- so that no other pair shows a capture than those that are watched
  pub unwatched : (copied : Bit → Option Bit) (ticking : List Bool) (words : List ℕ) (cycles : List Cycles) (after : List ℕ) (c : Crossing)
      → ((b : Bit) → settles net domains b ≡ false → cycles_of cycles b ≡ 0) → is_watched domains (settles net domains) c ≡ false
      → shows_in net domains copied ticking words cycles after c ≡ false
  unwatched copied ticking words cycles after c calm h =
      let p = neither (differ (group_of domains c.from) (group_of domains c.to)) (settles net domains c.from) h in
      let marked = is_marked ticking (clock_of domains c.to) in
      let changes = not (beq (reading_of words c.from) (reading_of after c.from)) in
      let unsettled = not (is_settling_in domains copied cycles c.to c.from) in
      let other = not (beq (next_with net words (c.from ∷ []) c.to) (reading_of after c.to)) in
      ap₂ (λ (apart late : Bool). (marked && ((apart && changes) || (late && unsettled))) && other) p.0 (ap (λ (m : ℕ). nat_lt 0 m) (calm c.from p.1))
      ∙ nothing marked other changes unsettled
