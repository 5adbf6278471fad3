-- A sound design is sound where some of its static bits stay at constants.
use Rattle.std.proofs.Common.{◌≡◌, ◌≢◌, ℕ, zero, suc, ◌<◌, Bool, true, false, Option, Some, None, ◌⊎◌, inl, inr, refl, sym, ap, subst, ◌∙◌, List}
use Rattle.cdc_base.specs.declared.bit.Bit.{Bit}
use Rattle.cell_graph.specs.Reading.{Reading, bit_eq}
use Rattle.cell_graph.proofs.Bits.{bit_eq-true}
use Rattle.cdc_model.specs.declared.scheme.Cover.{Cover}
use Rattle.cdc_model.specs.Design.{Design, flipped, is_behind}
use Rattle.cdc_model.specs.Runs.{State, Trace, Start, Then, now, is_in, ticks, IsRun, around}
use Rattle.cdc_model.specs.Sound.{Covered, IsNext, Settled, CalmStep, HaveWord, WholeStep, LeansOn, KeptSince, HeldStep}
use Rattle.cdc_model.proofs.Behind.{next_behind, source_clock}
use Rattle.cdc_model.proofs.Flips.{flipped_not}
use Rattle.std.proofs.Math.Path.{fun_ext}
use Rattle.flat_model.specs.Pinned.{IsHeld, IsPinned, PinnedIsSound}
use Rattle.flat_model.proofs.PinnedRuns.{held_design, register_free, clocked_free, pinned_same, agree_pinned, flipped_pinned, pinned_state, pinned_run, now_pinned, only_registers, flips_pinned, next_pinned, run_pinned, around_pinned}

-- a bit that ticks has a clock
pub ticking_clock : (d : Design) (edges : ℕ → Bool) (x : Bit) → ticks d edges x ≡ true → (c : ℕ) × (d.clock x ≡ Some c)
ticking_clock d edges x h = go (d.clock x) refl h
  where
    go : (o : Option ℕ) → d.clock x ≡ o → is_in o edges ≡ true → (c : ℕ) × (d.clock x ≡ Some c)
    go None e h = cc
    go (Some c) e h = (c, e)

module _ (d : Design) (pinned : Reading → Reading) (next : Reading → Bit → Bool) (p : IsPinned d pinned next) where
  abbrev e : Design
  e = held_design d pinned next p

  covered : (covers : List Cover) (is_extra : Bit → Bit → Bool) → Covered d covers is_extra → Covered e covers is_extra
  covered covers is_extra h b x r q reg async agree ne = h b x (pinned r) (pinned q) reg async (agree_pinned d pinned next p b r q agree)
      (λ same. ne (p.nexts r x (p.registers x reg) ∙ same ∙ sym (p.nexts q x (p.registers x reg))))

  is_next : (f g : Bit) → IsNext d f g → IsNext e f g
  is_next f g h = record {
    register = h.register;
    copy = h.copy;
    clock = h.clock;
    only = h.only;
    others = λ x reg ne r q agree. p.nexts r x (p.registers x reg)
        ∙ h.others x reg ne (pinned r) (pinned q) (agree_pinned d pinned next p f r q agree) ∙ sym (p.nexts q x (p.registers x reg));
  }

  settled : (covers : List Cover) → Settled d covers → Settled e covers
  settled covers h c i s = let k = h c i s in (k.0, k.1, λ j f l behind. let n = k.2 j f l behind in (n.0, is_next f n.0 n.1))

  calm : (covers : List Cover) (edges : ℕ → Bool) (past : Trace) (new : State) → IsRun e past
      → CalmStep d covers edges (pinned_state d pinned next p (now past)) (pinned_state d pinned next p new) → CalmStep e covers edges (now past) new
  calm covers edges past new run h x reg t other flips loose =
      next_pinned d pinned next p (now past) new.values x flips (only_registers d pinned next p past run) loose reg
      ∙ h x reg t other flips (flips_pinned d pinned next p (now past) new.values x flips loose)
      ∙ sym (p.nexts (now past).values x (p.registers x reg))

  -- a flop behind a clocked bit isn't held
  behind_free : (f : Bit) (c : ℕ) → d.clock f ≡ Some c → (n : ℕ) (x : Bit) → is_behind d f n x ≡ true → (r : Reading) → pinned r x ≡ r x
  behind_free f c k zero x h r = clocked_free d pinned next p x c (ap d.clock (bit_eq-true x f h) ∙ k) r
  behind_free f c k (suc n) x h r = register_free d pinned next p x (next_behind d f n x h).0 r

  word : (covers : List Cover) → Settled d covers → (c sig j : ℕ) (taken source : Reading) → HaveWord d covers c sig j (pinned taken) (pinned source) → HaveWord e covers c sig j taken source
  word covers ok c sig j taken source h cover x i s clock from behind =
      let async = source_clock d cover.from cover.to (ok cover i s).1 in
      sym (behind_free cover.to c clock j x behind taken) ∙ h cover x i s clock from behind ∙ clocked_free d pinned next p cover.from async.0 async.1 source

  whole : (covers : List Cover) → Settled d covers → (past : Trace) (edges : ℕ → Bool) (new : State)
      → WholeStep d covers (pinned_run d pinned next p past) edges (pinned_state d pinned next p new) → WholeStep e covers past edges new
  whole covers ok past edges new h c sig j before after edge l around =
      elim (h c sig j (pinned_state d pinned next p before) (pinned_state d pinned next p after) edge l (around_pinned d pinned next p c j (Then past edges new) before after around)) [
        | inl k ↦ inl (word covers ok c sig j new.values before.values k)
        | inr k ↦ inr (word covers ok c sig j new.values after.values k)
      ]

  -- ---- loads

  one_flip : (b : Bit) (r : Reading) → (IsHeld d pinned b → ⊥) → pinned (flipped (bit_eq b) r) ≡ flipped (bit_eq b) (pinned r)
  one_flip b r free = flipped_pinned d pinned next p (bit_eq b) r (λ a h k. free (subst (IsHeld d pinned) (sym (bit_eq-true b a h)) k))

  held_flip : (b : Bit) (r : Reading) → IsHeld d pinned b → pinned (flipped (bit_eq b) r) ≡ pinned r
  held_flip b r k = fun_ext (λ a. go a (bit_eq b a) refl)
    where
      go : (a : Bit) (v : Bool) → bit_eq b a ≡ v → pinned (flipped (bit_eq b) r) a ≡ pinned r a
      go a true h = subst (λ (c : Bit). pinned (flipped (bit_eq b) r) c ≡ pinned r c) (bit_eq-true b a h) (k.one (flipped (bit_eq b) r) r)
      go a false h = pinned_same d pinned next p (flipped (bit_eq b) r) r a (flipped_not (bit_eq b) r a h)

  -- what x depends on isn't held
  leans_free : (covers : List Cover) (s : Reading) (x b : Bit) → x.at < d.width x.sig → LeansOn e covers s x b → IsHeld d pinned b → ⊥
  leans_free covers s x b l h k = h.2 (p.nexts h.0 x l ∙ ap (λ (r : Reading). d.next r x) (sym (held_flip b h.0 k)) ∙ sym (p.nexts (flipped (bit_eq b) h.0) x l))

  leans : (covers : List Cover) (s : Reading) (x b : Bit) → x.at < d.width x.sig → LeansOn e covers s x b → LeansOn d covers (pinned s) x b
  leans covers s x b l h = (
    pinned h.0,
    λ a k. pinned_same d pinned next p h.0 s a (h.1 a k),
    λ same. h.2 (p.nexts h.0 x l ∙ same ∙ ap (λ (r : Reading). d.next r x) (sym (one_flip b h.0 (leans_free covers s x b l h))) ∙ sym (p.nexts (flipped (bit_eq b) h.0) x l)),
  )

  kept_since : (request b : Bit) → ((r : Reading) → pinned r b ≡ r b) → (run : Trace) → KeptSince request b (pinned_run d pinned next p run) → KeptSince request b run
  kept_since request b free (Start s) h = h
  kept_since request b free (Then past edges s) h = elim (subst (λ (z : State).
      (z.values request ≢ pinned s.values request) ⊎ ((z.values b ≡ pinned s.values b) × KeptSince request b (pinned_run d pinned next p past))) (now_pinned d pinned next p past) h) [
        | inl ne ↦ inl (λ same. ne (pinned_same d pinned next p (now past).values s.values request same))
        | inr k ↦ inr (sym (free (now past).values) ∙ k.0 ∙ free s.values, kept_since request b free past k.1)
      ]

  free_of : (b : Bit) → (IsHeld d pinned b → ⊥) → (r : Reading) → pinned r b ≡ r b
  free_of b h r = elim (p.bits b) [ inl k ↦ absurd (h k) | inr free ↦ free r ]

  held : (covers : List Cover) (rings : List (List Bit)) (past : Trace) (edges : ℕ → Bool) (new : State)
      → HeldStep d covers rings (pinned_run d pinned next p past) edges (pinned_state d pinned next p new) → HeldStep e covers rings past edges new
  held covers rings past edges new h c k i ring t lean =
      let clock = ticking_clock d edges c.to t in
      let l = p.clocked c.to clock.0 clock.1 in
      let free = free_of c.from (leans_free covers (now past).values c.to c.from l lean) in
      let same : (now (pinned_run d pinned next p past)).values ≡ pinned (now past).values = ap (λ (z : State). z.values) (now_pinned d pinned next p past) in
      let q = h c k i ring t (subst (λ (r : Reading). LeansOn d covers r c.to c.from) (sym same) (leans covers (now past).values c.to c.from l lean)) in
      (q.0, q.1, q.2, sym (free (now past).values) ∙ sym (ap (λ (r : Reading). r c.from) same) ∙ q.3 ∙ free new.values, kept_since q.0 c.from free past q.4)

pub pinned_is_sound : PinnedIsSound
pinned_is_sound d pinned next p covers rings is_extra s = record {
  covered = covered d pinned next p covers is_extra s.covered;
  settled = settled d pinned next p covers s.settled;
  calm = λ past edges new run. calm d pinned next p covers edges past new run.0
      (subst (λ (old : State). CalmStep d covers edges old (pinned_state d pinned next p new)) (now_pinned d pinned next p past)
      (s.calm (pinned_run d pinned next p past) edges (pinned_state d pinned next p new) (run_pinned d pinned next p (Then past edges new) run)));
  whole = λ past edges new run. whole d pinned next p covers s.settled past edges new
      (s.whole (pinned_run d pinned next p past) edges (pinned_state d pinned next p new) (run_pinned d pinned next p (Then past edges new) run));
  ringed = s.ringed;
  held = λ past edges new run. held d pinned next p covers rings past edges new
      (s.held (pinned_run d pinned next p past) edges (pinned_state d pinned next p new) (run_pinned d pinned next p (Then past edges new) run));
}
