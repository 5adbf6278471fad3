use Rattle.std.proofs.Common.{◌≡◌, ◌∙◌, ◌+◌, ℕ, suc, List, ◌∷◌, drop, refl, sym, ap₂, subst, arith, drop-cons}
use Rattle.json.specs.Token.{Token}
use Rattle.cdc_model.specs.declared.record.RecordStep.{RecordStep}
use Rattle.campaign.specs.Lines.{HasStep, HasSteps}
use Rattle.campaign.proofs.Written.{nothing-left}
use Rattle.campaign.proofs.text.add_steps.Goals as goal

pub loop-step-preserved : goal.loop-step-preserved
loop-step-preserved c = λ small end more.
    let h : HasStep c.args.net.now c.args.domains.now c.step-item.result c.loop-step.output c.add_step.new.output = c.in_ok-add_step.ensures small in
    let next : suc c.loop-step.step-index ≡ c.loop-step.step-index + 1 = omega arith in
    let split : drop c.loop-step.step-index c.args.steps.now ≡ c.step-item.result ∷ drop (c.loop-step.step-index + 1) c.args.steps.now
    = drop-cons c.args.steps.now c.loop-step.step-index c.step-item.result c.loop-step-test.true ∙ ap₂ (λ (s : RecordStep) (n : ℕ). s ∷ drop n c.args.steps.now) (sym c.step-item.is) next in
    c.loop-step.invariant small end
    (subst (λ (ks : List RecordStep). HasSteps c.args.net.now c.args.domains.now ks c.loop-step.output end) (sym split)
    (h.0, h.1, subst (λ (out : List Token). HasSteps c.args.net.now c.args.domains.now (drop (c.loop-step.step-index + 1) c.args.steps.now) out end) h.2 more))

pub returns : goal.returns
returns c = λ small. c.loop-step.invariant small c.loop-step.output
    (subst (λ (ks : List RecordStep). HasSteps c.args.net.now c.args.domains.now ks c.loop-step.output c.loop-step.output)
    (sym (nothing-left c.args.steps.now c.loop-step.step-index c.loop-step-test.false)) refl)
