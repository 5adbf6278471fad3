-- A run in which some bits stay at constants is a run.
use Rattle.std.proofs.Common.{◌≡◌, ℕ, zero, suc, ◌≤◌, Bool, true, false, cond, not, Option, Some, None, inl, inr, refl, sym, ap, ap₂, subst, ◌∙◌, arith}
use Rattle.std.proofs.lemmas.Bool.{both_ways, false_from_ne_true}
use Rattle.std.proofs.Math.Path.{fun_ext}
use Rattle.cdc_base.specs.declared.bit.Bit.{Bit}
use Rattle.cell_graph.specs.Reading.{Reading}
use Rattle.cdc_model.specs.Design.{Design, flipped, AgreeBut}
use Rattle.cdc_model.specs.Runs.{State, Trace, Start, Then, now, IsLoose, Changes, Unsettled, AreLoose, IsStep, IsFirst, IsRun, around}
use Rattle.cdc_model.proofs.Behind.{source_clock}
use Rattle.flat_model.specs.Pinned.{IsHeld, IsPinned}

module _ (d : Design) (pinned : Reading → Reading) (next : Reading → Bit → Bool) (p : IsPinned d pinned next) where
  abbrev pub held_design : Design
  held_design = record d { next = next }

  -- a bit of a register, or of a clock, is as the reading has it
  pub register_free : (b : Bit) → d.is_register b ≡ true → (r : Reading) → pinned r b ≡ r b
  register_free b h r = elim (p.bits b) [
    | inl k ↦ absurd (both_ways (d.is_register b) k.register h)
    | inr free ↦ free r
  ]

  some_none : (c : ℕ) → Some c ≡ None → ⊥
  some_none c e = cc

  pub clocked_free : (b : Bit) (c : ℕ) → d.clock b ≡ Some c → (r : Reading) → pinned r b ≡ r b
  clocked_free b c h r = elim (p.bits b) [
    | inl k ↦ absurd (some_none c (sym h ∙ k.clock))
    | inr free ↦ free r
  ]

  -- readings that agree at a bit agree at it pinned
  pub pinned_same : (r q : Reading) (b : Bit) → r b ≡ q b → pinned r b ≡ pinned q b
  pinned_same r q b e = elim (p.bits b) [
    | inl k ↦ k.one r q
    | inr free ↦ free r ∙ e ∙ sym (free q)
  ]

  pub agree_pinned : (b : Bit) (r q : Reading) → AgreeBut b r q → AgreeBut b (pinned r) (pinned q)
  agree_pinned b r q h a ne = pinned_same r q a (h a ne)

  -- flips of bits that aren't held
  pub flipped_pinned : (flips : Bit → Bool) (s : Reading) → ((b : Bit) → flips b ≡ true → IsHeld d pinned b → ⊥) → pinned (flipped flips s) ≡ flipped flips (pinned s)
  flipped_pinned flips s free = fun_ext (λ b. elim (p.bits b) [
    | inl k ↦ k.one (flipped flips s) s ∙ sym (ap (λ f. cond f (not (pinned s b)) (pinned s b)) (false_from_ne_true (flips b) (λ h. free b h k)))
    | inr so ↦ so (flipped flips s) ∙ ap (λ v. cond (flips b) (not v) v) (sym (so s))
  ])

  -- ---- states

  abbrev pub pinned_state : State → State
  pinned_state s = record { values = pinned s.values; left = s.left }

  abbrev pub pinned_run : Trace → Trace
  pinned_run (Start s) = Start (pinned_state s)
  pinned_run (Then past edges s) = Then (pinned_run past) edges (pinned_state s)

  pub now_pinned : (run : Trace) → now (pinned_run run) ≡ pinned_state (now run)
  now_pinned (Start s) = refl
  now_pinned (Then past edges s) = refl

  -- only register bits are unsettled
  abbrev pub OnlyRegisters : State → Type 0
  OnlyRegisters s = (b : Bit) → 1 ≤ s.left b → d.is_register b ≡ true

  pub only_registers : (run : Trace) → IsRun held_design run → OnlyRegisters (now run)
  only_registers (Start s) h b l = absurd (omega (arith, h.settled b))
  only_registers (Then past edges s) h b l = h.1.registers_only b l

  -- a loose bit isn't held
  pub loose_free : (old : State) (new : Reading) (x b : Bit) → OnlyRegisters old → IsLoose held_design old new x b → IsHeld d pinned b → ⊥
  loose_free old new x b only (Changes a e) k = let c = source_clock held_design b x a in some_none c.0 (sym c.1 ∙ k.clock)
  loose_free old new x b only (Unsettled l e) k = both_ways (d.is_register b) k.register (only b l)

  loose_pinned : (old : State) (new : Reading) (x b : Bit) → IsLoose held_design old new x b → IsLoose d (pinned_state old) (pinned new) x b
  loose_pinned old new x b (Changes a e) =
      let c = source_clock held_design b x a in
      Changes a (λ same. e (sym (clocked_free b c.0 c.1 old.values) ∙ same ∙ clocked_free b c.0 c.1 new))
  loose_pinned old new x b (Unsettled l e) = Unsettled l e

  pub flips_pinned : (old : State) (new : Reading) (x : Bit) (flips : Bit → Bool) → AreLoose held_design old new x flips → AreLoose d (pinned_state old) (pinned new) x flips
  flips_pinned old new x flips h b f = loose_pinned old new x b (h b f)

  -- with loose bits flipped, a register bit's next value is that of the pinned reading with them flipped
  pub next_pinned : (old : State) (new : Reading) (x : Bit) (flips : Bit → Bool) → OnlyRegisters old → AreLoose held_design old new x flips → d.is_register x ≡ true
      → next (flipped flips old.values) x ≡ d.next (flipped flips (pinned old.values)) x
  next_pinned old new x flips only h reg =
      p.nexts (flipped flips old.values) x (p.registers x reg)
      ∙ ap (λ (r : Reading). d.next r x) (flipped_pinned flips old.values (λ b f k. loose_free old new x b only (h b f) k))

  -- ---- steps and runs

  pub step_pinned : (edges : ℕ → Bool) (old new : State) → OnlyRegisters old → IsStep held_design edges old new → IsStep d edges (pinned_state old) (pinned_state new)
  step_pinned edges old new only h = record {
    edge = h.edge;
    captured = λ x reg t. let k = h.captured x reg t in
        (k.0, flips_pinned old new.values x k.0 k.1, register_free x reg new.values ∙ k.2 ∙ next_pinned old new.values x k.0 only k.1 reg);
    metastable = λ x reg t. elim (h.metastable x reg t) [
      | inl e ↦ inl e
      | inr k ↦ inr (
        k.0,
        flips_pinned old new.values x k.0 k.1,
        (λ same. k.2 (next_pinned old new.values x k.0 only k.1 reg ∙ same ∙ register_free x reg new.values)),
        k.3,
      )
    ];
    held = λ x reg t. let k = h.held x reg t in (register_free x reg new.values ∙ k.0 ∙ sym (register_free x reg old.values), k.1);
    kept = λ b reg t. pinned_same new.values old.values b (h.kept b reg t);
    registers_only = h.registers_only;
  }

  pub first_pinned : (s : State) → IsFirst held_design s → IsFirst d (pinned_state s)
  first_pinned s h = record {
    start = λ b v e. elim (p.bits b) [
      | inl k ↦ absurd (none v (sym e ∙ k.start))
      | inr free ↦ free s.values ∙ h.start b v e
    ];
    settled = h.settled;
  }
    where
      none : (v : Bool) → Some v ≡ None → ⊥
      none v e = cc

  pub run_pinned : (run : Trace) → IsRun held_design run → IsRun d (pinned_run run)
  run_pinned (Start s) h = first_pinned s h
  run_pinned (Then past edges s) h =
      (run_pinned past h.0, subst (λ (old : State). IsStep d edges old (pinned_state s)) (sym (now_pinned past)) (step_pinned edges (now past) s (only_registers past h.0) h.1))

  abbrev pinned_pair : Option (State × State) → Option (State × State)
  pinned_pair None = None
  pinned_pair (Some q) = Some (pinned_state q.0, pinned_state q.1)

  choose_pair : (t : Bool) (o q : Option (State × State)) → pinned_pair (cond t o q) ≡ cond t (pinned_pair o) (pinned_pair q)
  choose_pair true o q = refl
  choose_pair false o q = refl

  around_pair : (c n : ℕ) (run : Trace) → around c n (pinned_run run) ≡ pinned_pair (around c n run)
  around_pair c n (Start s) = refl
  around_pair c zero (Then past edges s) =
      ap (λ o. cond (edges c) (Some (o, pinned_state s)) (around c zero (pinned_run past))) (now_pinned past)
      ∙ ap (cond (edges c) (Some (pinned_state (now past), pinned_state s))) (around_pair c zero past)
      ∙ sym (choose_pair (edges c) (Some (now past, s)) (around c zero past))
  around_pair c (suc n) (Then past edges s) =
      ap₂ (cond (edges c)) (around_pair c n past) (around_pair c (suc n) past)
      ∙ sym (choose_pair (edges c) (around c n past) (around c (suc n) past))

  pub around_pinned : (c n : ℕ) (run : Trace) (before after : State) → around c n run ≡ Some (before, after) → around c n (pinned_run run) ≡ Some (pinned_state before, pinned_state after)
  around_pinned c n run before after h = around_pair c n run ∙ ap pinned_pair h
