use Rattle.std.proofs.Common.{refl}
use Rattle.flat_form.specs.declared.flat.FlatReset.{FlatReset}
use Rattle.flat_meaning.specs.Flat.{assigns}
use Rattle.flat_form.specs.View.{stmt_of}
use Rattle.flat_form.specs.Masks.{has_signal}
use Rattle.flat_form.proofs.Listed.{names-step}
use Rattle.flat_drivers.proofs.Assigned.{set_in, all-listed}
use Rattle.flat_drivers.proofs.driven.add_branches.Goals as goal

pub loop-reset-init : goal.loop-reset-init
loop-reset-init c = λ s. refl

pub loop-reset-preserved : goal.loop-reset-preserved
loop-reset-preserved c =
    let all = c.args.resets.now in
    names-step set_in (λ (x : FlatReset). assigns (stmt_of x.branch))
    (has_signal c.args.driven.now) c.loop-reset.driven c.add_may_assign.new.assigned (set_in all) all c.loop-reset.reset-index c.reset-item.result
    c.loop-reset-test.true c.reset-item.is refl c.loop-reset.invariant c.in_ok-add_may_assign.ensures.listed

pub returns : goal.returns
returns c =
    all-listed set_in (λ s. refl) c.args.driven.now c.loop-reset.driven c.args.resets.now c.loop-reset.reset-index
    c.loop-reset-test.false c.loop-reset.invariant
