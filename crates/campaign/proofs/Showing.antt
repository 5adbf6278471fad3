-- What a campaign finds shows a capture.
use Rattle.std.proofs.Common.{◌≡◌, ◌≢◌, ◌∙◌, ℕ, zero, suc, ◌+◌, ◌==◌, Bool, true, false, cond, List, [], ◌∷◌, ◌++◌, map, length, Contains, Option, Some, None, refl, sym, ap, subst, append_assoc, eq-eqb}
use Rattle.std.specs.List.{AllByRecursion}
use Rattle.cell_graph.specs.declared.net.Net.{Net}
use Rattle.domains.specs.declared.Domains.{Domains}
use Rattle.cdc_model.specs.declared.record.RecordStep.{RecordStep}
use Rattle.cdc_model.specs.declared.scheme.Crossing.{Crossing}
use Rattle.cdc_model.specs.Design.{Design, flipped}
use Rattle.cdc_model.specs.Nets.{design_of}
use Rattle.cdc_model.specs.Replay.{has_bit, has_edge, opened, stepped, step_fault, StepFault, Replayed, Ran, on_fault, replayed_from, AreClocks}
use Rattle.cdc_model.specs.Runs.{State, Trace, Start, Then, now, IsLoose}
use Rattle.cdc_model.proofs.Replay.{fixed_run, loose_of_test}
use Rattle.campaign.specs.declared.found.Found.{Found}
use Rattle.campaign.specs.Campaign.{campaign, capture_after, capture_in, captured_races, captured_step, captures, draw_after, found_by, found_of, in_lanes, in_steps, lane_after, or_found, steps_of}
use Rattle.campaign.specs.Drawn.{Drawn, draw, race_of_toss, step_of}
use Rattle.campaign.specs.Plan.{AreNamed, pairs_of}
use Rattle.campaign.specs.Run.{CanRun}
use Rattle.campaign.specs.Shows.{ShowsCapture}
use Rattle.campaign.proofs.Fixes.{drawn-passes, end-differs, end-loose, end-pair, end-passes, end-takes, end-ticks, step-clocks}
use Rattle.campaign.proofs.Passing.{found-in}

-- steps without a fault go on
goes : (o : Option StepFault) (n : ℕ) (more : Replayed) → o ≡ None → on_fault o n more ≡ more
goes None n more e = refl
goes (Some f) n more e = cc

each-more : {A : Type 0} (P : A → Type 0) (xs ys : List A) → AllByRecursion P xs → AllByRecursion P ys → AllByRecursion P (xs ++ ys)
each-more P [] ys h k = k
each-more P (x ∷ xs) ys h k = (h.0, each-more P xs ys h.1 k)

module _ (net : Net) (domains : Domains) (can : CanRun net domains) (some : length domains.clocks ≢ 0) (named : List ℕ) (are_named : AreNamed net domains named) where
  abbrev d : Design
  d = design_of net domains

  -- a drawn step has no fault
  draw-passes : (number : ℕ) (s : State) (rng : List ℕ) → step_fault d s (step_of (draw net domains named number s rng)) ≡ None
  unfolding draw
  draw-passes number s rng = drawn-passes net domains can some named are_named number s rng

  draw-clocks : (number : ℕ) (s : State) (rng : List ℕ) → AreClocks d (step_of (draw net domains named number s rng))
  unfolding draw
  draw-clocks number s rng = step-clocks net domains can some named are_named number s rng (map race_of_toss (draw net domains named number s rng).tosses)

  module _ (seed : ℕ) where
    abbrev moment : ℕ → State
    moment n = (lane_after net domains named seed n).state

    abbrev step-after : ℕ → RecordStep
    step-after n = step_of (draw_after net domains named seed n)

    moment-next : (n : ℕ) → moment (suc n) ≡ stepped d (moment n) (step-after n)
    unfolding lane_after
    moment-next n = refl

    moment-first : moment 0 ≡ opened d []
    unfolding lane_after
    moment-first = refl

    steps-next : (n : ℕ) → steps_of net domains named seed (suc n) ≡ steps_of net domains named seed n ++ step-after n ∷ []
    unfolding steps_of
    steps-next n = refl

    steps-first : steps_of net domains named seed 0 ≡ []
    unfolding steps_of
    steps-first = refl

    -- the run of the first n steps
    abbrev ran : ℕ → Trace
    ran zero = Start (opened d [])
    ran (suc n) = Then (ran n) (has_edge (step-after n).edges) (stepped d (now (ran n)) (step-after n))

    ran-now : (n : ℕ) → now (ran n) ≡ moment n
    ran-now zero = sym moment-first
    ran-now (suc n) = ap (λ (s : State). stepped d s (step-after n)) (ran-now n) ∙ sym (moment-next n)

    replays : (n : ℕ) (ks : List RecordStep) → replayed_from d 1 (Start (opened d [])) (steps_of net domains named seed n ++ ks) ≡ replayed_from d (suc n) (ran n) ks
    replays zero ks = ap (λ (js : List RecordStep). replayed_from d 1 (Start (opened d [])) (js ++ ks)) steps-first
    replays (suc n) ks =
        ap (replayed_from d 1 (Start (opened d []))) (ap (λ (js : List RecordStep). js ++ ks) (steps-next n) ∙ append_assoc (steps_of net domains named seed n) (step-after n ∷ []) ks)
        ∙ replays n (step-after n ∷ ks)
        ∙ goes (step_fault d (now (ran n)) (step-after n)) (suc n) (replayed_from d (suc (suc n)) (ran (suc n)) ks)
        (ap (λ (s : State). step_fault d s (step-after n)) (ran-now n) ∙ draw-passes (suc n) (moment n) (lane_after net domains named seed n).rng)

    steps-clocks : (n : ℕ) → AllByRecursion (AreClocks d) (steps_of net domains named seed n)
    steps-clocks zero = subst (λ (ks : List RecordStep). AllByRecursion (AreClocks d) ks) (sym steps-first) tt
    steps-clocks (suc n) = subst (λ (ks : List RecordStep). AllByRecursion (AreClocks d) ks) (sym (steps-next n))
        (each-more (AreClocks d) (steps_of net domains named seed n) (step-after n ∷ []) (steps-clocks n) (draw-clocks (suc n) (moment n) (lane_after net domains named seed n).rng, tt))

    -- ---- the last step

    module _ (n : ℕ) (c : Crossing) (shown : capture_after net domains named seed n ≡ Some c) where
      abbrev s : State
      s = moment n

      abbrev rng : List ℕ
      rng = (lane_after net domains named seed n).rng

      abbrev k : Drawn
      k = draw_after net domains named seed n

      found-there : Contains (pairs_of net domains) c × (captures d k.edges s (stepped d s (step_of k)).values c ≡ true)
      unfolding capture_after capture_in
      found-there = found-in (captures d k.edges s (stepped d s (step_of k)).values) (pairs_of net domains) c shown

      abbrev last : RecordStep
      last = captured_step k c

      last-passes : step_fault d s last ≡ None
      unfolding draw
      last-passes = end-passes net domains can some named are_named (suc n) s rng c found-there.0 found-there.1

      last-clocks : AreClocks d last
      unfolding draw
      last-clocks = step-clocks net domains can some named are_named (suc n) s rng (captured_races k.tosses c)

      abbrev new : State
      new = stepped d (now (ran n)) last

      new-is : new ≡ stepped d s last
      new-is = ap (λ (t : State). stepped d t last) (ran-now n)

      abbrev found : Found
      found = found_by net domains named seed n c

      fixed : replayed_from d 1 (Start (opened d [])) found.run.steps ≡ Ran (Then (ran n) (has_edge last.edges) new)
      fixed = replays n (last ∷ []) ∙ goes (step_fault d (now (ran n)) last) (suc n) (Ran (Then (ran n) (has_edge last.edges) new)) (ap (λ (t : State). step_fault d t last) (ran-now n) ∙ last-passes)

      pub shows-capture : ShowsCapture net domains found
      unfolding draw
      shows-capture = record {
        past = ran n;
        edges = has_edge last.edges;
        new = new;
        fixed = fixed;
        run = fixed_run d found.run (each-more (AreClocks d) (steps_of net domains named seed n) (last ∷ []) (steps-clocks n) (last-clocks, tt)) (Then (ran n) (has_edge last.edges) new) fixed;
        register = (end-pair net domains can some named are_named (suc n) s rng c found-there.0 found-there.1).0.to;
        plain = (end-pair net domains can some named are_named (suc n) s rng c found-there.0 found-there.1).1;
        ticking = end-ticks net domains can some named are_named (suc n) s rng c found-there.0 found-there.1;
        loose = subst (λ (t : State). IsLoose d t new.values c.to c.from) (sym (ran-now n))
            (subst (λ (u : State). IsLoose d s u.values c.to c.from) (sym new-is)
            (loose_of_test d (has_edge last.edges) s (stepped d s last).values c.to c.from (end-ticks net domains can some named are_named (suc n) s rng c found-there.0 found-there.1)
            (end-loose net domains can some named are_named (suc n) s rng c found-there.0 found-there.1)));
        taken = ap (λ (u : State). u.values c.to) new-is ∙ end-takes net domains can some named are_named (suc n) s rng c found-there.0 found-there.1
            ∙ ap (λ (t : State). d.next (flipped (has_bit (c.from ∷ [])) t.values) c.to) (sym (ran-now n));
        other = λ e. end-differs net domains can some named are_named (suc n) s rng c found-there.0 found-there.1
            (sym (ap (λ (u : State). u.values c.to) new-is) ∙ e ∙ ap (λ (t : State). d.next t.values c.to) (ran-now n));
      }

  -- ---- what is found

  no-found : (f : Found) → None ≡ Some f → ShowsCapture net domains f
  no-found f e = cc

  of-lane : (seed n : ℕ) (o : Option Crossing) → capture_after net domains named seed n ≡ o → (f : Found) → found_of net domains named seed n o ≡ Some f → ShowsCapture net domains f
  of-lane seed n None e f h = no-found f h
  of-lane seed n (Some c) e f h = let same : found_by net domains named seed n c ≡ f = cc in subst (ShowsCapture net domains) same (shows-capture seed n c e)

  either : (a b : Option Found) (f : Found) → (a ≡ Some f → ShowsCapture net domains f) → (b ≡ Some f → ShowsCapture net domains f) → or_found a b ≡ Some f → ShowsCapture net domains f
  either (Some g) b f h k e = h e
  either None b f h k e = k e

  lanes-show : (n seed m : ℕ) (f : Found) → in_lanes net domains named n seed m ≡ Some f → ShowsCapture net domains f
  unfolding in_lanes
  lanes-show n seed zero f e = no-found f e
  lanes-show n seed (suc m) f e =
      either (found_of net domains named seed n (capture_after net domains named seed n)) (in_lanes net domains named n (seed + 1) m) f
      (of-lane seed n (capture_after net domains named seed n) refl f) (lanes-show n (seed + 1) m f) e

  pub steps-show : (seed n m : ℕ) (f : Found) → in_steps net domains named seed n m ≡ Some f → ShowsCapture net domains f
  unfolding in_steps
  steps-show seed n zero f e = no-found f e
  steps-show seed n (suc m) f e =
      either (in_lanes net domains named n seed 8) (in_steps net domains named seed (suc n) m) f (lanes-show n seed 8 f) (steps-show seed (suc n) m f) e

pub found-shows : (net : Net) (domains : Domains) (named : List ℕ) (steps seed : ℕ) (f : Found) → CanRun net domains → AreNamed net domains named
    → campaign net domains named steps seed ≡ Some f → ShowsCapture net domains f
unfolding campaign
found-shows net domains named steps seed f can are_named = go (length domains.clocks == 0) refl
  where
    none-there : None ≡ Some f → ShowsCapture net domains f
    none-there h = cc

    clocks-there : (length domains.clocks == 0) ≡ false → length domains.clocks ≢ 0
    clocks-there e h = let t = eq-eqb (length domains.clocks) 0 h in cc

    go : (t : Bool) → (length domains.clocks == 0) ≡ t → cond t None (in_steps net domains named seed 0 steps) ≡ Some f → ShowsCapture net domains f
    go true e h = none-there h
    go false e h = steps-show net domains can (clocks-there e) named are_named seed 0 steps f h
