-- The law of the chain.
use Rattle.std.proofs.Common.{◌≡◌, ℕ, zero, suc, ◌+◌, ◌-◌, ◌<◌, ◌≤◌, nat_lt, Bool, true, false, cond, Some, None, List, [], Contains, inl, inr, refl, sym, ap, subst, ◌∙◌, arith, ltb-true, ltb-false}
use Rattle.std.proofs.lemmas.Bool.{both_ways}
use Rattle.cdc_base.specs.declared.bit.Bit.{Bit}
use Rattle.cdc_model.specs.Design.{Design, settle_of}
use Rattle.cdc_model.specs.Runs.{State, Trace, Start, Then, now, is_in, ticks, IsStep, IsRun, around, InEachState}
use Rattle.cdc_model.specs.Schemes.{IsAt, Trees, AreTrees, Follows, Sync, IsSync, is_settling, flops}
use Rattle.cdc_model.specs.Facts.{OnlySettling, IsEither}
use Rattle.cdc_model.specs.Chain.{ChainStep, ChainRun}
use Rattle.cdc_model.proofs.Chain.{before_at, same_place, at_clock, place_settling, reads_settling, first_takes, copy_takes}
use Rattle.cdc_model.proofs.Behind.{place_unique}
use Rattle.cdc_model.proofs.Rings.{ne_cases}

pub state_now : (P : State → Type 0) (run : Trace) → InEachState P run → P (now run)
state_now P (Start s) h = h
state_now P (Then past edges s) h = h.1

some_none : (p : State × State) → Some p ≡ None → ⊥
some_none p e = cc

pub pair_parts : (p q : State × State) → Some p ≡ Some q → (p.0 ≡ q.0) × (p.1 ≡ q.1)
pair_parts p q e = let f : p ≡ q = cc in (ap (λ (x : State × State). x.0) f, ap (λ (x : State × State). x.1) f)

module _ (d : Design) (t : Trees) (laws : AreTrees d t) (syncs : List Sync) (ok : (s : Sync) → Contains syncs s → IsSync d t s) where
  -- the flop before a further one
  before : (s : Sync) → Contains syncs s → (j : ℕ) (y : Bit) → IsAt (suc j) y (flops s) → (x : Bit) × IsAt j x (flops s) × Follows d t x y
  before s i j y a = before_at d t (settle_of d s.first) (3 - settle_of d s.first) s.first s.more (ok s i).chain j y a

  module _ (edges : ℕ → Bool) (old new : State) (step : IsStep d edges old new) (only : OnlySettling d syncs old) where
    pub cycles_left : (s : Sync) → Contains syncs s → (j : ℕ) (x : Bit) → j < settle_of d s.first → IsAt j x (flops s) → ticks d edges x ≡ true → 1 ≤ new.left x → j + new.left x ≤ settle_of d s.first
    cycles_left s i zero x l a ticking u =
        let c = first_takes d t laws syncs ok edges old new step only s i (ap (ticks d edges) (sym a) ∙ ticking) in
        let m : new.left s.first ≤ settle_of d s.first = (c.1 (subst (λ (z : Bit). 1 ≤ new.left z) a u)).1 in
        let e : new.left x ≡ new.left s.first = ap new.left a in
        omega arith
    cycles_left s i (suc j) x l a ticking u =
        let b = before s i j x a in
        let e : new.left x ≡ old.left b.0 - 1 = (copy_takes d t laws syncs ok edges old new step only x b.0 b.2.register ticking b.2.copy (sym b.2.clock)).1 u in
        let (r, q, p) = only b.0 (omega arith) in
        let w = place_unique d t laws syncs ok s r i q j p.0 b.0 b.1 p.1 in
        let f : settle_of d s.first ≡ settle_of d r.first = ap (settle_of d) w.1 in
        let m : p.0 + old.left b.0 ≤ settle_of d r.first = p.2 in
        let v : j ≡ p.0 = w.0 in
        omega arith

    pub chain_step : ChainStep d syncs edges old new
    chain_step = record {
      first = λ s i ticking. let c = first_takes d t laws syncs ok edges old new step only s i ticking in (c.0, λ u. (c.1 u).0);
      further = λ s j x y i l a b ticking one.
          let k = before s i j y b in
          let e : k.0 ≡ x = same_place j k.0 x (flops s) k.1 a in
          let h = (copy_takes d t laws syncs ok edges old new step only y k.0 k.2.register ticking k.2.copy (sym k.2.clock)).0 (subst (λ (z : Bit). old.left z ≤ 1) (sym e) one) in
          (h.0 ∙ ap old.values e, h.1);
      cycles = λ s j x i l a ticking. counted s i j x l a ticking (new.left x) refl;
      copy = λ x b reg ticking none copy clock.
          (copy_takes d t laws syncs ok edges old new step only x b reg ticking copy clock).0 (one_left x b reg none copy clock (old.left b) refl);
    }
      where
        counted : (s : Sync) → Contains syncs s → (j : ℕ) (x : Bit) → j < settle_of d s.first → IsAt j x (flops s) → ticks d edges x ≡ true → (n : ℕ) → new.left x ≡ n → j + new.left x ≤ settle_of d s.first
        counted s i j x l a ticking zero e = omega arith
        counted s i j x l a ticking (suc n) e = cycles_left s i j x l a ticking (omega arith)

        one_left : (x b : Bit) → d.is_register x ≡ true → is_settling d syncs x ≡ false → d.copied x ≡ Some b → d.clock b ≡ d.clock x → (n : ℕ) → old.left b ≡ n → old.left b ≤ 1
        one_left x b reg none copy clock zero e = omega arith
        one_left x b reg none copy clock (suc zero) e = omega arith
        one_left x b reg none copy clock (suc (suc n)) e =
            let (s, i, p) = only b (omega arith) in
            let k = reads_settling d t laws syncs ok s i p.0 b x (omega (arith, p.2)) p.1 reg (laws.same_reads [] x b reg (sym (laws.copied x reg) ∙ copy)) in
            absurd (both_ways (is_settling d syncs x) none (place_settling d t laws syncs ok s i (suc p.0) x (omega (arith, p.2)) k.2))

  -- a settling flop at place j holds its source's value from before or after the step j ticks ago
  pub settling_holds : (s : Sync) → Contains syncs s → (c : ℕ) → d.clock s.first ≡ Some c → (run : Trace) → IsRun d run → InEachState (OnlySettling d syncs) run → (j : ℕ) (x : Bit) → IsAt j x (flops s)
      → (before after : State) → around c j run ≡ Some (before, after) → IsEither (now run) x (before.values s.from) (after.values s.from)
  settling_holds s i c e (Start first) run only j x a before after h = cc
  settling_holds s i c e (Then past edges new) run only zero x a before after h = go (edges c) refl (settling_holds s i c e past run.0 only.0 zero x a before after)
    where
      go : (v : Bool) → edges c ≡ v → (around c zero past ≡ Some (before, after) → IsEither (now past) x (before.values s.from) (after.values s.from))
          → IsEither new x (before.values s.from) (after.values s.from)
      go true k ih =
          let b : Some (now past, new) ≡ Some (before, after) = sym (ap (λ v. cond v (Some (now past, new)) (around c zero past)) k) ∙ h in
          let (g, f) = pair_parts (now past, new) (before, after) b in
          let t' = first_takes d t laws syncs ok edges (now past) new run.1 (state_now (OnlySettling d syncs) past only.0) s i (ap (λ o. is_in o edges) e ∙ k) in
          subst (λ (z : State). IsEither new x (z.values s.from) (after.values s.from)) g
          (subst (λ (z : State). IsEither new x ((now past).values s.from) (z.values s.from)) f
          (subst (λ (y : Bit). IsEither new y ((now past).values s.from) (new.values s.from)) (sym a)
          (t'.0, λ u. (t'.1 u).0)))
      go false k ih =
          let w = run.1.held x (ap d.is_register a ∙ (ok s i).crossing.register) (ap (λ o. is_in o edges) (ap d.clock a ∙ e) ∙ k) in
          let p = ih (sym (ap (λ v. cond v (Some (now past, new)) (around c zero past)) k) ∙ h) in
          (elim p.0 [ inl q ↦ inl (w.0 ∙ q) | inr q ↦ inr (w.0 ∙ q) ], λ u. p.1 (subst (λ (n : ℕ). 1 ≤ n) w.1 u))
  settling_holds s i c e (Then past edges new) run only (suc j) x a before' after h =
      go (edges c) refl (λ y k. settling_holds s i c e past run.0 only.0 j y k before' after) (settling_holds s i c e past run.0 only.0 (suc j) x a before' after)
    where
      b : (y : Bit) × IsAt j y (flops s) × Follows d t y x
      b = before s i j x a

      clock : d.clock x ≡ Some c
      clock = at_clock d t laws syncs ok s i (suc j) x a ∙ e

      Goal : State → Bit → Type 0
      Goal st y = IsEither st y (before'.values s.from) (after.values s.from)

      by_left : IsEither (now past) b.0 (before'.values s.from) (after.values s.from)
          → ((now past).left b.0 ≤ 1 → (new.values x ≡ (now past).values b.0) × (new.left x ≡ 0)) × (1 ≤ new.left x → new.left x ≡ (now past).left b.0 - 1)
          → (v : Bool) → nat_lt 1 ((now past).left b.0) ≡ v → IsEither new x (before'.values s.from) (after.values s.from)
      by_left p q true m =
          let ne = p.1 (omega (arith, ltb-true 1 ((now past).left b.0) m)) in
          (ne_cases (before'.values s.from) (after.values s.from) (new.values x) ne, λ u. ne)
      by_left p q false m =
          let w = q.0 (ltb-false 1 ((now past).left b.0) m) in
          (elim p.0 [ inl z ↦ inl (w.0 ∙ z) | inr z ↦ inr (w.0 ∙ z) ], λ u. absurd (omega (arith, w.1)))

      go : (v : Bool) → edges c ≡ v
          → ((y : Bit) → IsAt j y (flops s) → around c j past ≡ Some (before', after) → IsEither (now past) y (before'.values s.from) (after.values s.from))
          → (around c (suc j) past ≡ Some (before', after) → IsEither (now past) x (before'.values s.from) (after.values s.from))
          → IsEither new x (before'.values s.from) (after.values s.from)
      go false k ih jh =
          let w = run.1.held x b.2.register (ap (λ o. is_in o edges) clock ∙ k) in
          let p = jh (sym (ap (λ v. cond v (around c j past) (around c (suc j) past)) k) ∙ h) in
          (elim p.0 [ inl q ↦ inl (w.0 ∙ q) | inr q ↦ inr (w.0 ∙ q) ], λ u. p.1 (subst (λ (n : ℕ). 1 ≤ n) w.1 u))
      go true k ih jh =
          by_left (ih b.0 b.1 (sym (ap (λ v. cond v (around c j past) (around c (suc j) past)) k) ∙ h))
          (copy_takes d t laws syncs ok edges (now past) new run.1 (state_now (OnlySettling d syncs) past only.0) x b.0 b.2.register (ap (λ o. is_in o edges) clock ∙ k) b.2.copy (sym b.2.clock))
          (nat_lt 1 ((now past).left b.0)) refl

  -- before its clock has ticked so often, it is settled
  unticked : (s : Sync) → Contains syncs s → (c : ℕ) → d.clock s.first ≡ Some c → (run : Trace) → IsRun d run → InEachState (OnlySettling d syncs) run → (j : ℕ) (x : Bit) → IsAt j x (flops s)
      → around c j run ≡ None → (now run).left x ≡ 0
  unticked s i c e (Start first) run only j x a h = run.settled x
  unticked s i c e (Then past edges new) run only zero x a h = go (edges c) refl (unticked s i c e past run.0 only.0 zero x a)
    where
      go : (v : Bool) → edges c ≡ v → (around c zero past ≡ None → (now past).left x ≡ 0) → new.left x ≡ 0
      go true k ih = let b : Some (now past, new) ≡ None = sym (ap (λ v. cond v (Some (now past, new)) (around c zero past)) k) ∙ h in absurd (some_none (now past, new) b)
      go false k ih =
          let w = run.1.held x (ap d.is_register a ∙ (ok s i).crossing.register) (ap (λ o. is_in o edges) (ap d.clock a ∙ e) ∙ k) in
          w.1 ∙ ih (sym (ap (λ v. cond v (Some (now past, new)) (around c zero past)) k) ∙ h)
  unticked s i c e (Then past edges new) run only (suc j) x a h =
      go (edges c) refl (unticked s i c e past run.0 only.0 j b.0 b.1) (unticked s i c e past run.0 only.0 (suc j) x a)
    where
      b : (y : Bit) × IsAt j y (flops s) × Follows d t y x
      b = before s i j x a

      clock : d.clock x ≡ Some c
      clock = at_clock d t laws syncs ok s i (suc j) x a ∙ e

      go : (v : Bool) → edges c ≡ v → (around c j past ≡ None → (now past).left b.0 ≡ 0) → (around c (suc j) past ≡ None → (now past).left x ≡ 0) → new.left x ≡ 0
      go true k ih jh =
          let z = ih (sym (ap (λ v. cond v (around c j past) (around c (suc j) past)) k) ∙ h) in
          ((copy_takes d t laws syncs ok edges (now past) new run.1 (state_now (OnlySettling d syncs) past only.0) x b.0 b.2.register (ap (λ o. is_in o edges) clock ∙ k) b.2.copy (sym b.2.clock)).0 (omega arith)).1
      go false k ih jh =
          (run.1.held x b.2.register (ap (λ o. is_in o edges) clock ∙ k)).1 ∙ jh (sym (ap (λ v. cond v (around c j past) (around c (suc j) past)) k) ∙ h)

  pub chain_run : (run : Trace) → IsRun d run → InEachState (OnlySettling d syncs) run → ChainRun d syncs run
  chain_run run is_run only = record {
    ticked = λ s c j x before after i e l a h. settling_holds s i c e run is_run only j x a before after h;
    unticked = λ s c j x i e l a h. unticked s i c e run is_run only j x a h;
  }
