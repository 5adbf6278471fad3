use Rattle.std.proofs.Common.{◌≡◌, ◌∙◌, ◌+◌, ◌++◌, ◌<◌, ◌^◌, length, sym, Ok, arith}
use Rattle.std.proofs.lemmas.Result.{err_from_is_err_and}
use Rattle.run_report.specs.Printed.{end_line}
use Rattle.run_report.proofs.Going.{memory-ends, item-fits, step-goes, step-stops, ends}
use Rattle.run_report.proofs.run.add_steps.Goals as goal

pub returns-in_err-registers-clause-exact : goal.returns-in_err-registers-clause-exact
returns-in_err-registers-clause-exact c = λ print steps at.
    let p = err_from_is_err_and c.from_residual.result c.from_residual.ensures.1 in
    rw (p.1, p.2) (memory-ends c.args.net.now c.args.domains.now c.args.sim.now 0 c.args.steps.now c.args.text.now)

pub loop-place-init : goal.loop-place-init
loop-place-init c = λ print steps at. (at, λ answer h. h)

pub returns-in_err-add_step-clause-exact : goal.returns-in_err-add_step-clause-exact
returns-in_err-add_step-clause-exact c = λ print steps at.
    let before = c.loop-place.invariant print steps at in
    let within : c.loop-place.place < length c.args.steps.now = omega arith in
    let fits = item-fits c.args.net.now c.args.domains.now c.args.steps.now c.loop-place.place c.index-steps-place.result steps within (sym c.index-steps-place.is) in
    let few : c.loop-place.place + 1 < 2 ^ 32 = omega (arith, steps.numbered) in
    let p = err_from_is_err_and c.from_residual-in_err-add_step.result c.from_residual-in_err-add_step.ensures.1 in
    rw (p.1, p.2) (step-stops c.args.net.now c.args.domains.now c.args.sim.now c.loop-place.sim c.loop-place.place c.number_of-number.result c.args.steps.now c.index-steps-place.result c.args.text.now c.loop-place.text _
    within (sym c.index-steps-place.is) (c.number_of-number.ensures few) (c.in_err-add_step.ensures.exact print before.0 fits (c.as_slice.ensures ∙ c.in_ok-registers.ensures)) before.1)

pub loop-place-preserved : goal.loop-place-preserved
loop-place-preserved c = λ print steps at.
    let before = c.loop-place.invariant print steps at in
    let within : c.loop-place.place < length c.args.steps.now = omega arith in
    let fits = item-fits c.args.net.now c.args.domains.now c.args.steps.now c.loop-place.place c.index-steps-place.result steps within (sym c.index-steps-place.is) in
    let few : c.loop-place.place + 1 < 2 ^ 32 = omega (arith, steps.numbered) in
    step-goes c.args.net.now c.args.domains.now c.args.sim.now c.loop-place.sim c.add_step.new.sim c.loop-place.place c.number_of-number.result c.args.steps.now c.index-steps-place.result c.args.text.now c.loop-place.text c.add_step.new.text
    within (sym c.index-steps-place.is) (c.number_of-number.ensures few) (c.in_ok-add_step.ensures.exact print before.0 fits (c.as_slice.ensures ∙ c.in_ok-registers.ensures)) before.1

pub returns-clause-exact : goal.returns-clause-exact
returns-clause-exact c = λ print steps at.
    let before = c.loop-place.invariant print steps at in
    let all : c.loop-place.place ≡ length c.args.steps.now = omega arith in
    before.1 (Ok (c.loop-place.text ++ end_line (length c.args.steps.now))) (ends c.args.net.now c.args.domains.now c.loop-place.sim c.loop-place.place c.args.steps.now c.loop-place.text all)
