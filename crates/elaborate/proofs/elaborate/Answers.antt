use Rattle.std.proofs.Common.{◌∙◌, ◌<◌, ◌≤◌, inl, inr, map, refl, rules, subst, sym}
use Rattle.std.specs.Prelude.{IfErr}
use Rattle.std.proofs.lemmas.Bool.{cases_lt, false≢true}
use Rattle.cdc_base.specs.declared.limits.TheConstants.{MAX_STATE_BITS}
use Rattle.cell_graph.specs.declared.net.Reg.{Reg}
use Rattle.elaborate.proofs.Fits.{fit-net, fit-next, registers-kept, words-started}
use Rattle.elaborate.proofs.Refusals.{err-also, limit-numbered, net-refused, tells-also}
use Rattle.elaborate.specs.Limits.{state_bits}
use Rattle.refusals.specs.Limits.{IsPastLimit, Tells}
use Rattle.elaborate.specs.Refusals.{IsDesignOf, IsFlattened, IsNetRefusedFor, IsRefusedFor}
use Rattle.elaborate.specs.Words.{AreStarted}
use Rattle.flat_form.specs.View.{flat_of}
use Rattle.elaborate.proofs.elaborate.Goals as goal

pub returns-clause-is_net : goal.returns-clause-is_net
returns-clause-is_net c =
    let made = c.in_ok-net.ensures in
    let registers = registers-kept c.in_ok-net.net c.args.flat.now.signals c.as_slice-signals.result.now (map (λ (r : Reg). r.sig) c.in_ok-net.net.regs)
    c.as_slice-signals.ensures made.signals (made.registers ∙ c.in_ok-sketch.ensures.registers) in
    fit-net c.in_ok-net.net made.well_formed registers made.fit

pub returns-clause-next_cells : goal.returns-clause-next_cells
returns-clause-next_cells c =
    let made = c.in_ok-net.ensures in
    let registers = registers-kept c.in_ok-net.net c.args.flat.now.signals c.as_slice-signals.result.now (map (λ (r : Reg). r.sig) c.in_ok-net.net.regs)
    c.as_slice-signals.ensures made.signals (made.registers ∙ c.in_ok-sketch.ensures.registers) in
    fit-next c.in_ok-net.net registers made.fit

pub returns-clause-started : goal.returns-clause-started
returns-clause-started c = subst AreStarted (sym c.in_ok-net.ensures.signals) (words-started c.as_slice-signals.result.now)

pub returns-clause-unfolds : goal.returns-clause-unfolds
returns-clause-unfolds c = λ sized sound sel trees.
    c.in_ok-net.ensures.unfolds (flat_of c.args.flat.now) sel (sym c.as_slice-signals.ensures) trees (c.in_ok-sketch.ensures.exact sized sound)

pub returns-then-has_too_many_state_bits-clause-numbered : goal.returns-then-has_too_many_state_bits-clause-numbered
returns-then-has_too_many_state_bits-clause-numbered c = limit-numbered 605 refl c.past_limit.result c.past_limit.ensures.told

pub returns-then-has_too_many_state_bits-clause-refused : goal.returns-then-has_too_many_state_bits-clause-refused
returns-then-has_too_many_state_bits-clause-refused c =
    let flat = c.args.flat.now in
    let many = subst (λ ss. MAX_STATE_BITS < state_bits ss) c.as_slice-signals.ensures (c.has_too_many_state_bits.ensures.0 c.if-has_too_many_state_bits.true) in
    tells-also (IsPastLimit 605) (IsRefusedFor flat) (λ fault told. IsRefusedFor.bits told many) c.past_limit.result c.past_limit.ensures.told

pub returns-in_err-net-clause-refused : goal.returns-in_err-net-clause-refused
returns-in_err-net-clause-refused c =
    let flat = c.args.flat.now in let signals = c.as_slice-signals.result.now in let sketch = c.in_ok-sketch.sketch in
    let design : IsFlattened flat → IsDesignOf (flat_of flat) signals sketch = λ is. record {
      same = sym c.as_slice-signals.ensures;
      sound = is.sound;
      filled = c.well_sized_is_filled.ensures c.args.flat.now is.sized;
      sketch = c.in_ok-sketch.ensures.exact is.sized is.sound;
      registers = c.in_ok-sketch.ensures.registers;
    } in
    let few : state_bits flat.signals ≤ MAX_STATE_BITS = subst (λ ss. state_bits ss ≤ MAX_STATE_BITS) c.as_slice-signals.ensures
    (elim (cases_lt MAX_STATE_BITS (state_bits signals)) [
      | inl l ↦ absurd (false≢true (sym c.if-has_too_many_state_bits.false ∙ c.has_too_many_state_bits.ensures.1 l))
      | inr l ↦ l
    ]) in
    let told : IfErr c.net_of.result (Tells (IsRefusedFor flat)) =
    err-also (Tells (IsNetRefusedFor signals sketch)) (Tells (IsRefusedFor flat)) (tells-also (IsNetRefusedFor signals sketch) (IsRefusedFor flat) (net-refused flat signals sketch few design)) c.net_of.result c.net_of.ensures.refused in
    search rules

pub returns-clause-accepted : goal.returns-clause-accepted
returns-clause-accepted c =
    let flat = c.args.flat.now in
    let design : IsFlattened flat → IsDesignOf (flat_of flat) c.as_slice-signals.result.now c.in_ok-sketch.sketch = λ is. record {
      same = sym c.as_slice-signals.ensures;
      sound = is.sound;
      filled = c.well_sized_is_filled.ensures c.args.flat.now is.sized;
      sketch = c.in_ok-sketch.ensures.exact is.sized is.sound;
      registers = c.in_ok-sketch.ensures.registers;
    } in record {
      bits = subst (λ ss. state_bits ss ≤ MAX_STATE_BITS) c.as_slice-signals.ensures
          (elim (cases_lt MAX_STATE_BITS (state_bits c.as_slice-signals.result.now)) [
            | inl l ↦ absurd (false≢true (sym c.if-has_too_many_state_bits.false ∙ c.has_too_many_state_bits.ensures.1 l))
            | inr l ↦ l
          ]);
      loop_free = λ is. (c.in_ok-net.ensures.accepted (flat_of flat) (design is)).0;
      room = λ is. (c.in_ok-net.ensures.accepted (flat_of flat) (design is)).1;
    }
