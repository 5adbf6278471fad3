-- The eight runs of a search, one after the other.
use Rattle.std.proofs.Common.{◌≡◌, ◌≢◌, ◌∙◌, ℕ, zero, suc, ◌+◌, ◌-◌, ◌<◌, ◌≤◌, ◌==◌, true, false, cond, List, [], ◌∷◌, ◌++◌, length, set, replicate, Option, Some, None, ◌⊎◌, inl, inr, refl, sym, ap, ap₂, subst, arith, eq-eqb, eqb-true, Bool}
use Rattle.std.specs.Prelude.{slice_get, is_some}
use Rattle.std.proofs.lemmas.List.{length-set, length-replicate}
use Rattle.std.proofs.lemmas.Option.{slice_get_within}
use Rattle.cell_graph.specs.declared.net.Net.{Net}
use Rattle.cell_graph.specs.Values.{AreWordsOf}
use Rattle.domains.specs.declared.Domains.{Domains}
use Rattle.cdc_model.specs.declared.record.RecordStep.{RecordStep}
use Rattle.cdc_model.specs.declared.scheme.Crossing.{Crossing}
use Rattle.cdc_model.specs.Nets.{design_of}
use Rattle.cdc_model.specs.Replay.{opened}
use Rattle.settling_sim.specs.declared.cycles.Cycles.{Cycles}
use Rattle.settling_sim.specs.Cycles.{cycles_of, settled}
use Rattle.settling_sim.specs.Opened.{AreStarts}
use Rattle.settling_sim.specs.Runs.{state_of}
use Rattle.settling_sim.specs.Starts.{start_words}
use Rattle.settling_sim.proofs.Opened.{is-opened}
use Rattle.campaign.specs.declared.found.Found.{Found}
use Rattle.campaign.specs.declared.plan.Plan.{Plan}
use Rattle.campaign.specs.declared.run.Run.{Run}
use Rattle.campaign.specs.Campaign.{IsAnswer, campaign, capture_after, draw_after, captured_step, found_of, in_lanes, in_steps, lane_after, or_found, steps_of}
use Rattle.campaign.specs.Draws.{seeded}
use Rattle.campaign.specs.Rows.{AreValuesIn}
use Rattle.campaign.specs.Run.{CanRun, IsPlan, IsPlanned, IsRunAfter, domains_of, net_of}
use Rattle.campaign.specs.Searched.{AreRuns, IsFoundBy}
use Rattle.campaign.proofs.LooseBits.{one-state}

-- ---- places of lists

pub get-push : {A : Type 0} (xs : List A) (x : A) (i : ℕ) (r : A) → slice_get (xs ++ x ∷ []) i ≡ Some r → (slice_get xs i ≡ Some r) ⊎ ((i ≡ length xs) × (x ≡ r))
get-push [] x zero r e = inr (refl, (let same : x ≡ r = cc in same))
get-push [] x (suc i) r e = cc
get-push (y ∷ ys) x zero r e = inl e
get-push (y ∷ ys) x (suc i) r e = elim (get-push ys x i r e) [
  | inl f ↦ inl f
  | inr f ↦ inr (ap suc f.0, f.1)
]

get-set : {A : Type 0} (xs : List A) (k : ℕ) (y : A) (i : ℕ) (r : A) → slice_get (set xs k y) i ≡ Some r → ((i ≡ k) × (y ≡ r)) ⊎ ((i ≢ k) × (slice_get xs i ≡ Some r))
get-set [] k y i r e = cc
get-set (x ∷ xs) zero y zero r e = inl (refl, (let same : y ≡ r = cc in same))
get-set (x ∷ xs) zero y (suc i) r e = inr ((λ f. omega (arith, f)), e)
get-set (x ∷ xs) (suc k) y zero r e = inr ((λ f. omega (arith, f)), e)
get-set (x ∷ xs) (suc k) y (suc i) r e = elim (get-set xs k y i r e) [
  | inl f ↦ inl (ap suc f.0, f.1)
  | inr f ↦ inr ((λ g. f.0 (omega (arith, g))), f.1)
]

-- ---- runs before their first step

module _ (net : Net) (domains : Domains) (can : CanRun net domains) (named : List ℕ) where
  no-starts : AreStarts net domains []
  no-starts = record { each = λ i d l. absurd (omega arith); once = λ i j d l m. absurd (omega arith) }

  pub run-opened : (seed : ℕ) (run : Run) → run.rng ≡ seeded seed → run.moment.words.items ≡ start_words net domains 0 net.graph.signals
      → run.moment.cycles.items ≡ replicate (length net.graph.signals) settled → run.steps ≡ [] → IsRunAfter net domains named seed 0 run
  unfolding lane_after steps_of
  run-opened seed run rng words cycles steps =
      let first = is-opened net domains [] can.opens no-starts in
      record {
        rng = rng;
        state = ap₂ (λ (ws : List ℕ) (cs : List Cycles). state_of ws cs) words cycles
            ∙ one-state (state_of (start_words net domains 0 net.graph.signals) (replicate (length net.graph.signals) settled)) (opened (design_of net domains) []) first.state;
        steps = steps;
        words = subst (λ (ws : List ℕ). AreWordsOf net.graph.signals ws) (sym words) first.can.words;
        cycles = ap length cycles ∙ length-replicate (length net.graph.signals) settled;
        rest = λ b h. ap (λ (cs : List Cycles). cycles_of cs b) cycles ∙ first.can.rest b h;
      }

  pub runs-opened : (seed : ℕ) (runs : List Run) → length runs ≡ 8 → ((i : ℕ) (r : Run) → slice_get runs i ≡ Some r → IsRunAfter net domains named (seed + i) 0 r) → AreRuns net domains named seed 0 0 runs
  runs-opened seed runs eight each = record {
    eight = eight;
    gone = λ i r l e. absurd (omega arith);
    left = λ i r l e. each i r e;
  }

-- ---- one run more

module _ (net : Net) (domains : Domains) (named : List ℕ) (seed n index : ℕ) (runs : List Run) (are : AreRuns net domains named seed n index runs) where
  pub one-gone : (run : Run) → IsRunAfter net domains named (seed + index) (n + 1) run → AreRuns net domains named seed n (index + 1) (set runs index run)
  one-gone run is = record {
    eight = length-set runs index run ∙ are.eight;
    gone = λ i r l e. elim (get-set runs index run i r e) [
      | inl f ↦ subst (λ (q : Run). IsRunAfter net domains named (seed + i) (n + 1) q) f.1 (subst (λ (k : ℕ). IsRunAfter net domains named (seed + k) (n + 1) run) (sym f.0) is)
      | inr f ↦ are.gone i r (let ne = f.0 in omega (arith, ne)) f.1
    ];
    left = λ i r l e. elim (get-set runs index run i r e) [
      | inl f ↦ absurd (omega (arith, f.0))
      | inr f ↦ are.left i r (omega arith) f.1
    ];
  }

  pub values-left : (run : Run) (cells : List (List ℕ)) → AreValuesIn net runs index cells → AreValuesIn net (set runs index run) (index + 1) cells
  values-left run cells values i r l small e fit = elim (get-set runs index run i r e) [
    | inl f ↦ absurd (omega (arith, f.0))
    | inr f ↦ values i r (omega arith) small f.1 fit
  ]

-- eight runs that have all gone a step more are before the next
pub all-gone : (net : Net) (domains : Domains) (named : List ℕ) (seed n index : ℕ) (runs : List Run) → 8 ≤ index → AreRuns net domains named seed n index runs → AreRuns net domains named seed (n + 1) 0 runs
all-gone net domains named seed n index runs all are = record {
  eight = are.eight;
  gone = λ i r l e. absurd (omega arith);
  left = λ i r l e. are.gone i r (let w = slice_get_within runs i r e in let c = are.eight in omega (arith, w, c)) e;
}

-- ---- the first that is found

some-stays : (f g : Option Found) → is_some f ≡ true → or_found f g ≡ f
some-stays (Some f) g h = refl
some-stays None g h = cc

pub lanes-from : (net : Net) (domains : Domains) (named : List ℕ) (n seed index : ℕ) → index < 8
    → in_lanes net domains named n (seed + index) (8 - index)
    ≡ or_found (found_of net domains named (seed + index) n (capture_after net domains named (seed + index) n)) (in_lanes net domains named n (seed + (index + 1)) (8 - (index + 1)))
unfolding in_lanes
lanes-from net domains named n seed index l =
    ap (in_lanes net domains named n (seed + index)) (let e : 8 - index ≡ suc (8 - (index + 1)) = omega arith in e)
    ∙ ap (λ k. or_found (found_of net domains named (seed + index) n (capture_after net domains named (seed + index) n)) (in_lanes net domains named n k (8 - (index + 1))))
    (let e : seed + index + 1 ≡ seed + (index + 1) = omega arith in e)

pub lane-found : (net : Net) (domains : Domains) (named : List ℕ) (n seed index : ℕ) (found whole : Option Found) → index < 8
    → found ≡ found_of net domains named (seed + index) n (capture_after net domains named (seed + index) n) → is_some found ≡ true
    → whole ≡ in_lanes net domains named n (seed + index) (8 - index) → found ≡ whole
lane-found net domains named n seed index found whole l is some e =
    sym (e ∙ lanes-from net domains named n seed index l
    ∙ ap (λ o. or_found o (in_lanes net domains named n (seed + (index + 1)) (8 - (index + 1)))) (sym is) ∙ some-stays found _ some)

pub lane-passed : (net : Net) (domains : Domains) (named : List ℕ) (n seed index : ℕ) (found whole : Option Found) → index < 8
    → found ≡ found_of net domains named (seed + index) n (capture_after net domains named (seed + index) n) → found ≡ None
    → whole ≡ in_lanes net domains named n (seed + index) (8 - index) → whole ≡ in_lanes net domains named n (seed + (index + 1)) (8 - (index + 1))
lane-passed net domains named n seed index found whole l is none e =
    e ∙ lanes-from net domains named n seed index l ∙ ap (λ o. or_found o (in_lanes net domains named n (seed + (index + 1)) (8 - (index + 1)))) (sym is ∙ none)

pub lanes-end : (net : Net) (domains : Domains) (named : List ℕ) (n seed index : ℕ) → 8 ≤ index → in_lanes net domains named n (seed + index) (8 - index) ≡ None
unfolding in_lanes
lanes-end net domains named n seed index l = ap (in_lanes net domains named n (seed + index)) (let e : 8 - index ≡ 0 = omega arith in e)

pub lanes-begin : (net : Net) (domains : Domains) (named : List ℕ) (n seed : ℕ) → in_lanes net domains named n seed 8 ≡ in_lanes net domains named n (seed + 0) (8 - 0)
lanes-begin net domains named n seed = ap₂ (in_lanes net domains named n) (let e : seed ≡ seed + 0 = omega arith in e) (let e : 8 ≡ 8 - 0 = omega arith in e)

steps-from : (net : Net) (domains : Domains) (named : List ℕ) (seed n steps : ℕ) → n < steps
    → in_steps net domains named seed n (steps - n) ≡ or_found (in_lanes net domains named n seed 8) (in_steps net domains named seed (n + 1) (steps - (n + 1)))
unfolding in_steps
steps-from net domains named seed n steps l =
    ap (in_steps net domains named seed n) (let e : steps - n ≡ suc (steps - (n + 1)) = omega arith in e)
    ∙ ap (λ k. or_found (in_lanes net domains named n seed 8) (in_steps net domains named seed k (steps - (n + 1)))) (let e : suc n ≡ n + 1 = omega arith in e)

pub step-found : (net : Net) (domains : Domains) (named : List ℕ) (seed n steps : ℕ) (found whole : Option Found) → n < steps → found ≡ in_lanes net domains named n seed 8 → is_some found ≡ true
    → whole ≡ in_steps net domains named seed n (steps - n) → found ≡ whole
step-found net domains named seed n steps found whole l is some e =
    sym (e ∙ steps-from net domains named seed n steps l ∙ ap (λ o. or_found o (in_steps net domains named seed (n + 1) (steps - (n + 1)))) (sym is) ∙ some-stays found _ some)

pub step-passed : (net : Net) (domains : Domains) (named : List ℕ) (seed n steps : ℕ) (found whole : Option Found) → n < steps → found ≡ in_lanes net domains named n seed 8 → found ≡ None
    → whole ≡ in_steps net domains named seed n (steps - n) → whole ≡ in_steps net domains named seed (n + 1) (steps - (n + 1))
step-passed net domains named seed n steps found whole l is none e =
    e ∙ steps-from net domains named seed n steps l ∙ ap (λ o. or_found o (in_steps net domains named seed (n + 1) (steps - (n + 1)))) (sym is ∙ none)

pub steps-end : (net : Net) (domains : Domains) (named : List ℕ) (seed n steps : ℕ) → steps ≤ n → in_steps net domains named seed n (steps - n) ≡ None
unfolding in_steps
steps-end net domains named seed n steps l = ap (in_steps net domains named seed n) (let e : steps - n ≡ 0 = omega arith in e)

pub steps-begin : (net : Net) (domains : Domains) (named : List ℕ) (seed steps : ℕ) → in_steps net domains named seed 0 steps ≡ in_steps net domains named seed 0 (steps - 0)
steps-begin net domains named seed steps = ap (in_steps net domains named seed 0) (let e : steps ≡ steps - 0 = omega arith in e)

-- what isn't there is none
pub none-there : {A : Type 0} (o : Option A) → is_some o ≡ false → o ≡ None
none-there None h = refl
none-there (Some x) h = cc

pub some-there : {A : Type 0} (o : Option A) → is_some o ≡ true → o ≡ None → ⊥
some-there None h e = cc
some-there (Some x) h e = cc

-- ---- campaigns

pub no-clocks : (net : Net) (domains : Domains) (named : List ℕ) (steps seed : ℕ) → length domains.clocks ≡ 0 → None ≡ campaign net domains named steps seed
unfolding campaign
no-clocks net domains named steps seed h = sym (ap (λ t. cond t None (in_steps net domains named seed 0 steps)) (eq-eqb (length domains.clocks) 0 h))

pub some-clocks : (net : Net) (domains : Domains) (named : List ℕ) (steps seed : ℕ) → (length domains.clocks ≡ 0 → ⊥) → in_steps net domains named seed 0 steps ≡ campaign net domains named steps seed
unfolding campaign
some-clocks net domains named steps seed h = go (length domains.clocks == 0) refl
  where
    go : (t : Bool) → (length domains.clocks == 0) ≡ t → in_steps net domains named seed 0 steps ≡ cond t None (in_steps net domains named seed 0 steps)
    go true e = absurd (h (eqb-true (length domains.clocks) 0 e))
    go false e = refl

-- the answer by a plan is that of the plan's net and domains
pub answer-of : (net : Net) (domains : Domains) (p : Plan) (steps seed : ℕ) (found : Option Found) → CanRun net domains → IsPlan net domains p.named.items p
    → ((named : List ℕ) → IsPlanned named p → found ≡ campaign (net_of p) (domains_of p) named steps seed) → IsAnswer net domains steps seed found
answer-of net domains p steps seed found can lists first = record {
  named = p.named.items;
  are_named = lists.are_named;
  first =
      first p.named.items (record {
        can = subst (λ (n : Net). CanRun n (domains_of p)) (sym lists.net_is) (subst (λ (d : Domains). CanRun net d) (sym lists.domains_are) can);
        lists = subst (λ (n : Net). IsPlan n (domains_of p) p.named.items p) (sym lists.net_is) (subst (λ (d : Domains). IsPlan net d p.named.items p) (sym lists.domains_are) lists);
      })
      ∙ ap₂ (λ (n : Net) (d : Domains). campaign n d p.named.items steps seed) lists.net_is lists.domains_are;
}

-- ---- what one run shows

pub shown : (net : Net) (domains : Domains) (named : List ℕ) (seed n : ℕ) (c : Crossing) (steps : List RecordStep) (f : Found) → IsFoundBy steps c f
    → steps ≡ steps_of net domains named seed n ++ captured_step (draw_after net domains named seed n) c ∷ [] → capture_after net domains named seed n ≡ Some c
    → Some f ≡ found_of net domains named seed n (capture_after net domains named seed n)
shown net domains named seed n c steps f is ends captured =
    ap Some (is ∙ ap (λ (ks : List RecordStep). let g : Found = record { run = record { start = []; steps = ks }; to = c.to; from = c.from } in g) ends)
    ∙ sym (ap (found_of net domains named seed n) captured)

pub not-shown : (net : Net) (domains : Domains) (named : List ℕ) (seed n : ℕ) → capture_after net domains named seed n ≡ None → None ≡ found_of net domains named seed n (capture_after net domains named seed n)
not-shown net domains named seed n captured = sym (ap (found_of net domains named seed n) captured)
