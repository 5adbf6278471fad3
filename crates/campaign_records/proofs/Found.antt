-- What a campaign finds is read back from the line that is written of it.
use Rattle.std.proofs.Common.{◌≡◌, ◌≢◌, ◌∙◌, ℕ, zero, suc, ◌+◌, ◌<◌, ◌≤◌, ◌==◌, Bool, true, false, cond, List, [], ◌∷◌, ◌++◌, length, Option, Some, None, Contains, refl, sym, ap, ap₂, subst, arith, eq-eqb, length-append}
use Rattle.std.specs.List.{AllByRecursion, AllZip}
use Rattle.std.proofs.lemmas.Cmp.{nat_list_cmp_total}
use Rattle.std.proofs.lemmas.List.Sorted.{ranks_by}
use Rattle.cdc_base.specs.declared.bit.Bit.{Bit}
use Rattle.cell_graph.specs.declared.net.Net.{Net}
use Rattle.domains.specs.declared.Domains.{Domains}
use Rattle.cdc_model.specs.declared.record.Given.{Given}
use Rattle.cdc_model.specs.declared.record.Race.{Race}
use Rattle.cdc_model.specs.declared.record.Record.{Record}
use Rattle.cdc_model.specs.declared.record.RecordStep.{RecordStep}
use Rattle.cdc_model.specs.declared.scheme.Crossing.{Crossing}
use Rattle.cdc_model.specs.Nets.{design_of, is_register_bit}
use Rattle.cdc_model.specs.Replay.{stepped}
use Rattle.cdc_model.specs.Runs.{Then}
use Rattle.run_file.specs.Files.{IsMeaning}
use Rattle.campaign.specs.declared.found.Found.{Found}
use Rattle.campaign.specs.Campaign.{campaign, capture_after, capture_in, captured_step, captures, draw_after, found_by, found_of, in_lanes, in_steps, lane_after, or_found, steps_of}
use Rattle.campaign.specs.Drawn.{step_of}
use Rattle.campaign.specs.Lines.{IsLine, IsOrdered, line_of}
use Rattle.campaign.specs.Names.{name_of}
use Rattle.campaign.specs.Plan.{AreNamed, pairs_of}
use Rattle.campaign.specs.Run.{CanRun}
use Rattle.campaign.proofs.Passing.{found-in}
use Rattle.campaign.proofs.Showing.{found-shows}
use Rattle.campaign_records.specs.Laws.{AreFound, FoundRecordsAreRead}
use Rattle.campaign_records.proofs.Drawn.{drawn-written, end-written, rest-stepped}
use Rattle.campaign_records.proofs.Orders.{one-order}
use Rattle.campaign_records.proofs.Replayed.{not-refused}
use Rattle.campaign_records.proofs.Written.{IsWritten, input-before, line-means, no-fault, one-meaning, race-before, races-rank}

-- ---- what is found, and where

-- what a lane shows in its step behind n others
pub record IsFoundAfter (net : Net) (domains : Domains) (named : List ℕ) (n : ℕ) (f : Found) : Type 0 where
  pub seed : ℕ
  pub pair : Crossing
  pub shown : capture_after net domains named seed n ≡ Some pair
  pub is : found_by net domains named seed n pair ≡ f

module _ (net : Net) (domains : Domains) (named : List ℕ) where
  none-found : (n : ℕ) (f : Found) → None ≡ Some f → IsFoundAfter net domains named n f
  none-found n f e = cc

  of-lane : (seed n : ℕ) (f : Found) (o : Option Crossing) → capture_after net domains named seed n ≡ o → found_of net domains named seed n o ≡ Some f → IsFoundAfter net domains named n f
  of-lane seed n f None e h = none-found n f h
  of-lane seed n f (Some c) e h = record { seed = seed; pair = c; shown = e; is = (let same : found_by net domains named seed n c ≡ f = cc in same) }

  either : {P : Type 0} (a b : Option Found) (f : Found) → (a ≡ Some f → P) → (b ≡ Some f → P) → or_found a b ≡ Some f → P
  either (Some g) b f h k e = h e
  either None b f h k e = k e

  of-lanes : (n seed m : ℕ) (f : Found) → in_lanes net domains named n seed m ≡ Some f → IsFoundAfter net domains named n f
  unfolding in_lanes
  of-lanes n seed zero f e = none-found n f e
  of-lanes n seed (suc m) f e =
      either (found_of net domains named seed n (capture_after net domains named seed n)) (in_lanes net domains named n (seed + 1) m) f
      (of-lane seed n f (capture_after net domains named seed n) refl) (of-lanes n (seed + 1) m f) e

  of-steps : (seed n m : ℕ) (f : Found) → in_steps net domains named seed n m ≡ Some f → (k : ℕ) × (k < n + m) × IsFoundAfter net domains named k f
  unfolding in_steps
  of-steps seed n zero f e = cc
  of-steps seed n (suc m) f e =
      either (in_lanes net domains named n seed 8) (in_steps net domains named seed (suc n) m) f
      (λ h. (n, omega arith, of-lanes n seed 8 f h)) (λ h. let p = of-steps seed (suc n) m f h in (p.0, omega (arith, p.1), p.2)) e

  of-campaign : (steps seed : ℕ) (f : Found) → campaign net domains named steps seed ≡ Some f → (length domains.clocks ≢ 0) × ((k : ℕ) × (k < steps) × IsFoundAfter net domains named k f)
  unfolding campaign
  of-campaign steps seed f = go (length domains.clocks == 0) refl
    where
      clocks-there : (length domains.clocks == 0) ≡ false → length domains.clocks ≢ 0
      clocks-there e h = let t = eq-eqb (length domains.clocks) 0 h in cc

      go : (t : Bool) → (length domains.clocks == 0) ≡ t → cond t None (in_steps net domains named seed 0 steps) ≡ Some f
          → (length domains.clocks ≢ 0) × ((k : ℕ) × (k < steps) × IsFoundAfter net domains named k f)
      go true e h = cc
      go false e h = (clocks-there e, let p = of-steps seed 0 steps f h in (p.0, omega (arith, p.1), p.2))

each-append : {A : Type 0} (P : A → Type 0) (xs ys : List A) → AllByRecursion P xs → AllByRecursion P ys → AllByRecursion P (xs ++ ys)
each-append P [] ys h k = k
each-append P (x ∷ xs) ys h k = (h.0, each-append P xs ys h.1 k)

-- ---- its steps

module _ (net : Net) (domains : Domains) (can : CanRun net domains) (found : AreFound net domains) (named : List ℕ) (are_named : AreNamed net domains named) (some : length domains.clocks ≢ 0) (seed : ℕ) where
  lane-rest : (n : ℕ) (b : Bit) → is_register_bit net b ≡ false → (lane_after net domains named seed n).state.left b ≡ 0
  unfolding lane_after
  lane-rest zero b h = refl
  lane-rest (suc n) b h = rest-stepped (design_of net domains) (lane_after net domains named seed n).state (step_of (draw_after net domains named seed n)) b h

  steps-next : (n : ℕ) → steps_of net domains named seed (suc n) ≡ steps_of net domains named seed n ++ step_of (draw_after net domains named seed n) ∷ []
  unfolding steps_of
  steps-next n = refl

  steps-first : steps_of net domains named seed 0 ≡ []
  unfolding steps_of
  steps-first = refl

  lane-written : (n : ℕ) → IsWritten net domains (step_of (draw_after net domains named seed n))
  lane-written n = drawn-written net domains can found named are_named some (suc n) (lane_after net domains named seed n).state (lane_after net domains named seed n).rng (lane-rest n)

  steps-written : (n : ℕ) → AllByRecursion (IsWritten net domains) (steps_of net domains named seed n)
  steps-written zero = subst (AllByRecursion (IsWritten net domains)) (sym steps-first) tt
  steps-written (suc n) = subst (AllByRecursion (IsWritten net domains)) (sym (steps-next n))
      (each-append (IsWritten net domains) (steps_of net domains named seed n) (step_of (draw_after net domains named seed n) ∷ []) (steps-written n) (lane-written n, tt))

  steps-long : (n : ℕ) → length (steps_of net domains named seed n) ≡ n
  steps-long zero = ap length steps-first
  steps-long (suc n) =
      let l = steps-long n in
      let m = length-append (steps_of net domains named seed n) (step_of (draw_after net domains named seed n) ∷ []) in
      ap length (steps-next n) ∙ m ∙ omega (arith, l)

  module _ (n : ℕ) (c : Crossing) (shown : capture_after net domains named seed n ≡ Some c) where
    shown-there : Contains (pairs_of net domains) c
        × (captures (design_of net domains) (draw_after net domains named seed n).edges (lane_after net domains named seed n).state
        (stepped (design_of net domains) (lane_after net domains named seed n).state (step_of (draw_after net domains named seed n))).values c ≡ true)
    unfolding capture_after capture_in
    shown-there = found-in (captures (design_of net domains) (draw_after net domains named seed n).edges (lane_after net domains named seed n).state
        (stepped (design_of net domains) (lane_after net domains named seed n).state (step_of (draw_after net domains named seed n))).values) (pairs_of net domains) c shown

    abbrev run : List RecordStep
    run = steps_of net domains named seed n ++ captured_step (draw_after net domains named seed n) c ∷ []

    pub run-written : AllByRecursion (IsWritten net domains) run
    run-written = each-append (IsWritten net domains) (steps_of net domains named seed n) (captured_step (draw_after net domains named seed n) c ∷ []) (steps-written n) (
      end-written net domains can found named are_named some (suc n) (lane_after net domains named seed n).state (lane_after net domains named seed n).rng (lane-rest n) c shown-there.0 shown-there.1,
      tt,
    )

    pub run-long : length run ≡ suc n
    run-long =
        let l = steps-long n in
        length-append (steps_of net domains named seed n) (captured_step (draw_after net domains named seed n) c ∷ []) ∙ omega (arith, l)

-- ---- steps in their orders are the steps themselves

module _ (net : Net) (domains : Domains) where
  abbrev made : List ℕ → List Given → List Race → RecordStep
  made edges inputs races = record { edges = edges; inputs = inputs; races = races }

  same-step : (k o : RecordStep) → IsOrdered net domains k o → IsWritten net domains k → o ≡ k
  same-step k o h w =
      ap (λ (es : List ℕ). made es o.inputs o.races) (h.edges ∙ w.edges)
      ∙ ap₂ (λ (gs : List Given) (rs : List Race). made k.edges gs rs)
      (one-order (input-before net) (ranks_by nat_list_cmp_total (λ (g : Given). name_of net.graph.signals g.sig)) k.inputs o.inputs w.inputs h.inputs h.by_name)
      (one-order race-before races-rank k.races o.races w.races h.races h.by_bit)

  same-steps : (ks os : List RecordStep) → AllZip (IsOrdered net domains) ks os → AllByRecursion (IsWritten net domains) ks → os ≡ ks
  same-steps [] [] h w = refl
  same-steps [] (o ∷ os) h w = absurd h
  same-steps (k ∷ ks) [] h w = absurd h
  same-steps (k ∷ ks) (o ∷ os) h w = ap₂ (λ j js. j ∷ js) (same-step k o h.0 w.0) (same-steps ks os h.1 w.1)

-- the record of these steps, which has no start values
abbrev record_of : List RecordStep → Record
record_of ks = record { start = []; steps = ks }

module _ (net : Net) (domains : Domains) (can : CanRun net domains) (found : AreFound net domains) (text : List ℕ) where
  line-read : (ks : List RecordStep) → length ks ≤ 100000 → AllByRecursion (IsWritten net domains) ks → IsLine net domains (record_of ks) text → IsMeaning net domains text (record_of ks)
  line-read ks few w (os, ordered, is) = subst (λ t. IsMeaning net domains t (record_of ks)) (sym (is ∙ ap (line_of net domains) (same-steps net domains ks os ordered w)))
      (line-means net domains can.opens.cells found ks few w)

  found-read : (named : List ℕ) → AreNamed net domains named → length domains.clocks ≢ 0 → (k steps : ℕ) → k < steps → steps ≤ 100000 → (f : Found) → IsFoundAfter net domains named k f
      → IsLine net domains f.run text → IsMeaning net domains text f.run
  found-read named are_named some k steps less few f at line =
      subst (λ (g : Found). IsMeaning net domains text g.run) at.is
      (line-read (run net domains can found named are_named some at.seed k at.pair at.shown)
      (let l = run-long net domains can found named are_named some at.seed k at.pair at.shown in omega (arith, l, less, few))
      (run-written net domains can found named are_named some at.seed k at.pair at.shown)
      (subst (λ (g : Found). IsLine net domains g.run text) (sym at.is) line))

pub found-records-are-read : FoundRecordsAreRead
found-records-are-read net domains steps seed f text can found few answer line =
    let shows = found-shows net domains answer.named steps seed f can answer.are_named (sym answer.first) in
    let there = of-campaign net domains answer.named steps seed f (sym answer.first) in
    let means = found-read net domains can found text answer.named answer.are_named there.0 there.1.0 steps there.1.1 few f there.1.2 line in
    record {
      means = means;
      alone = λ other h. one-meaning net domains text f.run other means h;
      whole = λ g h. no-fault net domains text f.run g means h;
      fixed = (Then shows.past shows.edges shows.new, shows.fixed);
      runs = λ g h. not-refused net domains f.run (Then shows.past shows.edges shows.new) g shows.fixed h;
    }
