use Rattle.std.proofs.Common.{ℕ, List, refl}
use Rattle.flat_meaning.specs.Design.{width_in, times_in, times_assigned}
use Rattle.flat_form.specs.declared.flat.FlatAssign.{FlatAssign}
use Rattle.flat_form.specs.View.{target_of}
use Rattle.flat_drivers.specs.Driving.{assigned_in}
use Rattle.flat_drivers.proofs.Counted.{reached-start, list-step, list-end}
use Rattle.flat_drivers.proofs.drivers.add_assigns.Goals as goal

pub loop-assign-init : goal.loop-assign-init
loop-assign-init c = reached-start (width_in c.args.signals.now) c.args.drivers.now (λ s i. times_assigned (width_in c.args.signals.now) s i (assigned_in c.args.assigns.now)) (λ s. 0)

pub loop-assign-preserved : goal.loop-assign-preserved
loop-assign-preserved c =
    let wid = width_in c.args.signals.now in
    let all = c.args.assigns.now in
    let x = c.assign-item.result in
    list-step wid c.args.drivers.now c.loop-assign.drivers c.add_target.new.drivers (λ (xs : List FlatAssign) (s i : ℕ). times_assigned wid s i (assigned_in xs)) (λ xs s. 0)
    (λ s i. times_in wid s i (target_of x.target)) (λ s. 0) all c.loop-assign.assign-index x c.loop-assign-test.true c.assign-item.is (record { at = λ s i l m. refl }) (λ s. refl) c.loop-assign.invariant c.in_ok-add_target.ensures

pub returns : goal.returns
returns c =
    let wid = width_in c.args.signals.now in
    list-end wid c.args.drivers.now c.loop-assign.drivers (λ (xs : List FlatAssign) (s i : ℕ). times_assigned wid s i (assigned_in xs)) (λ xs s. 0) c.args.assigns.now c.loop-assign.assign-index c.loop-assign-test.false (λ s j. refl) (λ s. refl) c.loop-assign.invariant
