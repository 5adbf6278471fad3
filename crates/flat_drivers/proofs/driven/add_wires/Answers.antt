use Rattle.std.proofs.Common.{refl}
use Rattle.flat_form.specs.declared.flat.FlatComb.{FlatComb}
use Rattle.flat_meaning.specs.Flat.{assigns}
use Rattle.flat_form.specs.View.{stmt_of}
use Rattle.flat_form.specs.Masks.{has_signal}
use Rattle.flat_form.proofs.Listed.{names-step}
use Rattle.flat_drivers.proofs.Assigned.{wired_in, all-listed}
use Rattle.flat_drivers.proofs.driven.add_wires.Goals as goal

pub loop-process-init : goal.loop-process-init
loop-process-init c = λ s. refl

pub loop-process-preserved : goal.loop-process-preserved
loop-process-preserved c =
    let all = c.args.combs.now in
    names-step wired_in (λ (x : FlatComb). assigns (stmt_of x.body))
    (has_signal c.args.driven.now) c.loop-process.driven c.add_may_assign.new.assigned
    (wired_in all) all c.loop-process.process-index c.process-item.result
    c.loop-process-test.true c.process-item.is refl c.loop-process.invariant c.in_ok-add_may_assign.ensures.listed

pub returns : goal.returns
returns c =
    all-listed wired_in (λ s. refl) c.args.driven.now c.loop-process.driven c.args.combs.now c.loop-process.process-index
    c.loop-process-test.false c.loop-process.invariant
