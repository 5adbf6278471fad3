use Rattle.std.proofs.Common.{refl}
use Rattle.flat_form.specs.declared.flat.FlatAssign.{FlatAssign}
use Rattle.flat_meaning.specs.Flat.{is_target}
use Rattle.flat_form.specs.View.{target_of}
use Rattle.flat_form.specs.Masks.{has_signal}
use Rattle.flat_form.proofs.Listed.{names-step}
use Rattle.flat_drivers.proofs.Assigned.{targets_in, all-listed}
use Rattle.flat_drivers.proofs.driven.add_targets.Goals as goal

pub loop-assign-init : goal.loop-assign-init
loop-assign-init c = λ s. refl

pub loop-assign-preserved : goal.loop-assign-preserved
loop-assign-preserved c =
    let all = c.args.assigns.now in
    names-step targets_in (λ (x : FlatAssign). is_target (target_of x.target))
    (has_signal c.args.driven.now) c.loop-assign.driven c.add_assigned.new.assigned
    (targets_in all) all c.loop-assign.assign-index c.assign-item.result
    c.loop-assign-test.true c.assign-item.is refl c.loop-assign.invariant c.in_ok-add_assigned.ensures.listed

pub returns : goal.returns
returns c =
    all-listed targets_in (λ s. refl) c.args.driven.now c.loop-assign.driven c.args.assigns.now c.loop-assign.assign-index
    c.loop-assign-test.false c.loop-assign.invariant
