-- The run that a record fixes is a run.
use Rattle.std.proofs.Common.{◌≡◌, ◌≢◌, ℕ, suc, ◌≤◌, nat_lt, Bool, true, false, cond, not, ◌&&◌, ◌||◌, ◌==◌, Option, Some, None, List, [], ◌∷◌, ◌⊎◌, inl, inr, refl, sym, ap, subst, ◌∙◌, arith, eq-eqb, is_some, ltb-true}
use Rattle.std.specs.Bool.{beq}
use Rattle.std.specs.List.{find, AllByRecursion}
use Rattle.std.proofs.lemmas.Bool.{both_ways, and_parts, and_from, or_cases, not-true}
use Rattle.cdc_base.specs.declared.bit.Bit.{Bit}
use Rattle.cell_graph.specs.Reading.{bit_eq, Reading}
use Rattle.cell_graph.proofs.Bits.{bit_eq-true, bit_eq-refl}
use Rattle.cdc_model.specs.Design.{Design, are_async, are_equal, at_bit, flipped}
use Rattle.cdc_model.specs.Runs.{State, Trace, Start, Then, now, is_in, ticks, IsLoose, Changes, Unsettled, AreLoose, left_by, IsStep, IsFirst, IsRun}
use Rattle.cdc_model.specs.declared.record.Given.{Given}
use Rattle.cdc_model.specs.declared.record.Race.{Race}
use Rattle.cdc_model.specs.declared.record.RecordStep.{RecordStep}
use Rattle.cdc_model.specs.declared.record.Record.{Record}
use Rattle.cdc_model.specs.Replay.{has_bit, has_edge, given_to, known_or, opened, race_of, flips_of, other_of, next_value, next_left, stepped, is_settling_for, is_loose, StepFault, NoEdge, NotLoose, NotOther, or_else, first_fault, unless, any_edge, input_fault, tick_fault, loose_fault, on_list, race_fault, other_fault, step_fault, Ran, on_fault, replayed_from, replayed, AreClocks}

pub no_fault : (a b : Option StepFault) → or_else a b ≡ None → (a ≡ None) × (b ≡ None)
no_fault None b h = (refl, h)
no_fault (Some f) b h = cc

pub passed : (t : Bool) (f : StepFault) → unless t f ≡ None → t ≡ true
passed true f h = refl
passed false f h = cc

pub none_first : {A : Type 0} (f : A → Option StepFault) (xs : List A) → first_fault f xs ≡ None → AllByRecursion (λ x. f x ≡ None) xs
none_first f [] h = tt
none_first f (x ∷ xs) h = let p = no_fault (f x) (first_fault f xs) h in (p.0, none_first f xs p.1)

-- what holds of each holds of the one that is found
found : {A : Type 0} (P : A → Type 0) (p : A → Bool) (xs : List A) (r : A) → AllByRecursion P xs → find p xs ≡ Some r → P r × (p r ≡ true)
found P p [] r all h = cc
found P p (x ∷ xs) r all h = go (p x) refl h (found P p xs r all.1)
  where
    some : x ≡ r → p x ≡ true → P r × (p r ≡ true)
    some e t = (subst P e all.0, ap p (sym e) ∙ t)

    go : (v : Bool) → p x ≡ v → cond v (Some x) (find p xs) ≡ Some r → (find p xs ≡ Some r → P r × (p r ≡ true)) → P r × (p r ≡ true)
    go true t h ih = some (cc) t
    go false t h ih = ih h

pub each_bit : (P : Bit → Type 0) (bs : List Bit) (b : Bit) → AllByRecursion P bs → has_bit bs b ≡ true → P b
each_bit P [] b all h = cc
each_bit P (a ∷ bs) b all h = go (bit_eq a b) refl h (each_bit P bs b all.1)
  where
    go : (v : Bool) → bit_eq a b ≡ v → (v || has_bit bs b) ≡ true → (has_bit bs b ≡ true → P b) → P b
    go true e h ih = subst P (bit_eq-true a b e) all.0
    go false e h ih = ih h

pub beq_differ : (u v : Bool) → not (beq u v) ≡ true → u ≢ v
beq_differ true true h e = cc
beq_differ true false h e = cc
beq_differ false true h e = cc
beq_differ false false h e = cc

clocks_alike : (o p : Option ℕ) (edges : ℕ → Bool) → o ≡ p → is_in p edges ≡ true → are_equal o p ≡ true
clocks_alike o None edges e h = cc
clocks_alike o (Some c) edges e h = ap (λ x. are_equal x (Some c)) e ∙ eq-eqb c c refl

pub loose_of_test : (d : Design) (edges : ℕ → Bool) (s : State) (t : Reading) (x b : Bit) → ticks d edges x ≡ true → is_loose d s t x b ≡ true → IsLoose d s t x b
loose_of_test d edges s t x b ticking h = by_case (or_cases (are_async d b x && not (beq (s.values b) (t b))) (nat_lt 0 (s.left b) && not (is_settling_for d s x b)) h)
  where
    by_case : (are_async d b x && not (beq (s.values b) (t b)) ≡ true) ⊎ (nat_lt 0 (s.left b) && not (is_settling_for d s x b) ≡ true) → IsLoose d s t x b
    by_case (inl h) = let p = and_parts (are_async d b x) (not (beq (s.values b) (t b))) h in Changes p.0 (beq_differ (s.values b) (t b) p.1)
    by_case (inr h) =
        let p = and_parts (nat_lt 0 (s.left b)) (not (is_settling_for d s x b)) h in
        Unsettled (ltb-true 0 (s.left b) p.0) (λ e f g. both_ways (is_settling_for d s x b) (not-true (is_settling_for d s x b) p.1)
        (and_from (are_equal (d.clock b) (d.clock x)) (at_bit (d.copied x) (λ a. bit_eq a b) && (s.left b == 1)) (clocks_alike (d.clock b) (d.clock x) edges e ticking)
        (and_from (at_bit (d.copied x) (λ a. bit_eq a b)) (s.left b == 1) (ap (λ o. at_bit o (λ a. bit_eq a b)) f ∙ bit_eq-refl b) (eq-eqb (s.left b) 1 g))))

module _ (d : Design) (s : State) (k : RecordStep) (clocks : AreClocks d k) (ok : step_fault d s k ≡ None) where
  after_races : (first_fault (race_fault d s (stepped d s k).values) k.races ≡ None) × (first_fault (other_fault d s (stepped d s k).values) k.races ≡ None)
  after_races =
      let races = first_fault (race_fault d s (stepped d s k).values) k.races in
      let others = first_fault (other_fault d s (stepped d s k).values) k.races in
      let ticked = first_fault (tick_fault d k) k.races in
      let inputs = first_fault (input_fault d k) k.inputs in
      let f1 = no_fault (unless (any_edge k.edges) NoEdge) (or_else (first_fault (input_fault d k) k.inputs) (or_else (first_fault (tick_fault d k) k.races)
      (or_else (first_fault (race_fault d s (stepped d s k).values) k.races) (first_fault (other_fault d s (stepped d s k).values) k.races)))) ok in
      let f2 = no_fault (first_fault (input_fault d k) k.inputs) (or_else (first_fault (tick_fault d k) k.races)
      (or_else (first_fault (race_fault d s (stepped d s k).values) k.races) (first_fault (other_fault d s (stepped d s k).values) k.races))) f1.1 in
      let f3 = no_fault (first_fault (tick_fault d k) k.races)
      (or_else (first_fault (race_fault d s (stepped d s k).values) k.races) (first_fault (other_fault d s (stepped d s k).values) k.races)) f2.1 in
      no_fault (first_fault (race_fault d s (stepped d s k).values) k.races) (first_fault (other_fault d s (stepped d s k).values) k.races) f3.1

  some_edge : any_edge k.edges ≡ true
  some_edge = passed (any_edge k.edges) NoEdge (no_fault (unless (any_edge k.edges) NoEdge) (or_else (first_fault (input_fault d k) k.inputs) (or_else (first_fault (tick_fault d k) k.races)
      (or_else (first_fault (race_fault d s (stepped d s k).values) k.races) (first_fault (other_fault d s (stepped d s k).values) k.races)))) ok).0

  first_edge : (es : List ℕ) → any_edge es ≡ true → (c : ℕ) × (has_edge es c ≡ true)
  first_edge [] h = cc
  first_edge (e ∷ es) h = (e, ap (λ v. v || has_edge es e) (eq-eqb e e refl))

  race_ok : (x : Bit) (r : Race) → race_of k.races x ≡ Some r → (race_fault d s (stepped d s k).values r ≡ None) × (r.bit ≡ x)
  race_ok x r e =
      let f = found (λ r. race_fault d s (stepped d s k).values r ≡ None) (λ r. bit_eq r.bit x) k.races r (none_first (race_fault d s (stepped d s k).values) k.races after_races.0) e in
      (f.0, bit_eq-true r.bit x f.1)

  list_loose : (x : Bit) → ticks d (has_edge k.edges) x ≡ true → (bs : List Bit) → loose_fault d s (stepped d s k).values x bs ≡ None → AreLoose d s (stepped d s k).values x (has_bit bs)
  list_loose x ticking bs h b e = loose_of_test d (has_edge k.edges) s (stepped d s k).values x b ticking
      (passed (is_loose d s (stepped d s k).values x b) (NotLoose x b)
      (each_bit (λ b. unless (is_loose d s (stepped d s k).values x b) (NotLoose x b) ≡ None) bs b (none_first (λ b. unless (is_loose d s (stepped d s k).values x b) (NotLoose x b)) bs h) e))

  race_loose : (x : Bit) → ticks d (has_edge k.edges) x ≡ true → (o : Option Race) → race_of k.races x ≡ o → AreLoose d s (stepped d s k).values x (flips_of o)
  race_loose x ticking None e b h = cc
  race_loose x ticking (Some r) e b h =
      let f = race_ok x r e in
      list_loose x ticking r.flip (subst (λ (y : Bit). loose_fault d s (stepped d s k).values y r.flip ≡ None) f.1
      (no_fault (loose_fault d s (stepped d s k).values r.bit r.flip) (on_list r.other (λ bs. loose_fault d s (stepped d s k).values r.bit bs)) f.0).0) b h

  value_at : (x : Bit) → d.is_register x ≡ true → ticks d (has_edge k.edges) x ≡ true → (stepped d s k).values x ≡ d.next (flipped (flips_of (race_of k.races x)) s.values) x
  value_at x reg ticking =
      ap (λ v. cond v (next_value d s k x) (s.values x)) ticking
      ∙ ap (λ v. cond v (d.next (flipped (flips_of (race_of k.races x)) s.values) x) (cond (d.is_input x) (given_to k.inputs x (s.values x)) (s.values x))) reg

  left_at : (x : Bit) → d.is_register x ≡ true → (v : Bool) → ticks d (has_edge k.edges) x ≡ v → (stepped d s k).left x ≡ cond v (next_left d s k x) (s.left x)
  left_at x reg v e =
      ap (λ u. cond u (cond (ticks d (has_edge k.edges) x) (next_left d s k x) (s.left x)) 0) reg
      ∙ ap (λ u. cond u (next_left d s k x) (s.left x)) e

  other_at : (x : Bit) → d.is_register x ≡ true → ticks d (has_edge k.edges) x ≡ true → (o : Option Race) → race_of k.races x ≡ o → (other : Option (List Bit)) → other_of o ≡ other
      → ((stepped d s k).left x ≡ 0)
      ⊎ ((flips : Bit → Bool) × AreLoose d s (stepped d s k).values x flips × (d.next (flipped flips s.values) x ≢ (stepped d s k).values x) × ((stepped d s k).left x ≡ left_by d s x (d.copied x)))
  other_at x reg ticking o e None q =
      inl (left_at x reg true ticking ∙ ap (λ a. cond (is_some (other_of a)) (left_by d s x (d.copied x)) 0) e ∙ ap (λ a. cond (is_some a) (left_by d s x (d.copied x)) 0) q)
  other_at x reg ticking None e (Some bs) q = cc
  other_at x reg ticking (Some r) e (Some bs) q =
      let f = race_ok x r e in
      let g = found (λ r. other_fault d s (stepped d s k).values r ≡ None) (λ r. bit_eq r.bit x) k.races r (none_first (other_fault d s (stepped d s k).values) k.races after_races.1) e in
      let l = (no_fault (loose_fault d s (stepped d s k).values r.bit r.flip) (on_list r.other (λ bs. loose_fault d s (stepped d s k).values r.bit bs)) f.0).1 in
      inr (
        has_bit bs,
        list_loose x ticking bs (subst (λ (y : Bit). loose_fault d s (stepped d s k).values y bs ≡ None) f.1 (subst (λ (o : Option (List Bit)). on_list o (λ bs. loose_fault d s (stepped d s k).values r.bit bs) ≡ None) q l)),
        beq_differ (d.next (flipped (has_bit bs) s.values) x) ((stepped d s k).values x)
            (subst (λ (y : Bit). not (beq (d.next (flipped (has_bit bs) s.values) y) ((stepped d s k).values y)) ≡ true) f.1
            (passed (not (beq (d.next (flipped (has_bit bs) s.values) r.bit) ((stepped d s k).values r.bit))) (NotOther r.bit)
            (subst (λ (o : Option (List Bit)). on_list o (λ bs. unless (not (beq (d.next (flipped (has_bit bs) s.values) r.bit) ((stepped d s k).values r.bit))) (NotOther r.bit)) ≡ None) q g.0))),
        left_at x reg true ticking ∙ ap (λ a. cond (is_some (other_of a)) (left_by d s x (d.copied x)) 0) e ∙ ap (λ a. cond (is_some a) (left_by d s x (d.copied x)) 0) q,
      )

  -- a record's step without a fault is a step
  pub fixed_step : IsStep d (has_edge k.edges) s (stepped d s k)
  fixed_step = record {
    edge = let e = first_edge k.edges some_edge in (e.0, clocks.edges e.0 e.1, e.1);
    captured = λ x reg ticking. (flips_of (race_of k.races x), race_loose x ticking (race_of k.races x) refl, value_at x reg ticking);
    metastable = λ x reg ticking. other_at x reg ticking (race_of k.races x) refl (other_of (race_of k.races x)) refl;
    held = λ x reg waiting. (ap (λ v. cond v (next_value d s k x) (s.values x)) waiting, left_at x reg false waiting);
    kept = λ b none idle. kept_at b none idle (ticks d (has_edge k.edges) b) refl (d.is_input b) refl;
    registers_only = λ b u. register_at b (d.is_register b) refl u;
  }
    where
      register_at : (b : Bit) (v : Bool) → d.is_register b ≡ v → 1 ≤ (stepped d s k).left b → v ≡ true
      register_at b true e u = refl
      register_at b false e u =
          let z : (stepped d s k).left b ≡ 0 = ap (λ v. cond v (cond (ticks d (has_edge k.edges) b) (next_left d s k b) (s.left b)) 0) e in
          absurd (omega arith)

      kept_at : (b : Bit) → d.is_register b ≡ false → (d.is_input b ≡ true → ticks d (has_edge k.edges) b ≡ false) → (t : Bool) → ticks d (has_edge k.edges) b ≡ t → (i : Bool) → d.is_input b ≡ i
          → (stepped d s k).values b ≡ s.values b
      kept_at b none idle false e i f = ap (λ v. cond v (next_value d s k b) (s.values b)) e
      kept_at b none idle true e true f = absurd (both_ways (ticks d (has_edge k.edges) b) (idle f) e)
      kept_at b none idle true e false f =
          ap (λ v. cond v (next_value d s k b) (s.values b)) e
          ∙ ap (λ v. cond v (d.next (flipped (flips_of (race_of k.races b)) s.values) b) (cond (d.is_input b) (given_to k.inputs b (s.values b)) (s.values b))) none
          ∙ ap (λ v. cond v (given_to k.inputs b (s.values b)) (s.values b)) f

opened_first : (d : Design) (start : List Given) → IsFirst d (opened d start)
opened_first d start = record {
  start = λ b v e. ap (λ o. known_or o (given_to start b false)) e;
  settled = λ b. refl;
}

is_trace : (a b : Trace) → Ran a ≡ Ran b → a ≡ b
is_trace a b e = cc

fixed_from : (d : Design) (n : ℕ) (past : Trace) (steps : List RecordStep) → IsRun d past → AllByRecursion (AreClocks d) steps → (run : Trace) → replayed_from d n past steps ≡ Ran run → IsRun d run
fixed_from d n past [] h all run e = subst (IsRun d) (is_trace past run e) h
fixed_from d n past (k ∷ ks) h all run e = go (step_fault d (now past) k) refl e (λ ok f. fixed_from d (suc n) (Then past (has_edge k.edges) (stepped d (now past) k)) ks (h, fixed_step d (now past) k all.0 ok) all.1 run f)
  where
    go : (o : Option StepFault) → step_fault d (now past) k ≡ o → on_fault o n (replayed_from d (suc n) (Then past (has_edge k.edges) (stepped d (now past) k)) ks) ≡ Ran run
        → (step_fault d (now past) k ≡ None → replayed_from d (suc n) (Then past (has_edge k.edges) (stepped d (now past) k)) ks ≡ Ran run → IsRun d run) → IsRun d run
    go None q f ih = ih q f
    go (Some x) q f ih = cc

-- what a record fixes is a run
pub fixed_run : (d : Design) (r : Record) → AllByRecursion (AreClocks d) r.steps → (run : Trace) → replayed d r ≡ Ran run → IsRun d run
fixed_run d r all run e = fixed_from d 1 (Start (opened d r.start)) r.steps (opened_first d r.start) all run e
