use Rattle.std.proofs.Common.{ℕ, List, refl}
use Rattle.flat_meaning.specs.Flat.{assigns}
use Rattle.flat_meaning.specs.Assigned.{may_assign}
use Rattle.flat_meaning.specs.Design.{width_in, once, times_processed}
use Rattle.flat_form.specs.declared.flat.FlatComb.{FlatComb}
use Rattle.flat_form.specs.View.{stmt_of}
use Rattle.flat_unfolding.specs.Drivers.{assigned_by}
use Rattle.flat_drivers.specs.Driving.{wires_in}
use Rattle.flat_drivers.proofs.Counted.{reached-start, list-step, list-end}
use Rattle.flat_drivers.proofs.drivers.add_wires_processes.Goals as goal

pub loop-process-init : goal.loop-process-init
loop-process-init c = reached-start (width_in c.args.signals.now) c.args.drivers.now (λ s i. times_processed (width_in c.args.signals.now) s i (wires_in c.args.combs.now)) (λ s. assigned_by (wires_in c.args.combs.now) s)

pub loop-process-preserved : goal.loop-process-preserved
loop-process-preserved c =
    let wid = width_in c.args.signals.now in
    let all = c.args.combs.now in
    let x = c.process-item.result in
    list-step wid c.args.drivers.now c.loop-process.drivers c.add_wires_process.new.drivers (λ (xs : List FlatComb) (s i : ℕ). times_processed wid s i (wires_in xs)) (λ (xs : List FlatComb) (s : ℕ). assigned_by (wires_in xs) s)
    (λ s i. once (may_assign wid (stmt_of x.body) s i)) (λ s. once (assigns (stmt_of x.body) s)) all c.loop-process.process-index x c.loop-process-test.true c.process-item.is
    (record { at = λ s i l m. refl }) (λ s. refl) c.loop-process.invariant c.in_ok-add_wires_process.ensures

pub returns : goal.returns
returns c =
    let wid = width_in c.args.signals.now in
    list-end wid c.args.drivers.now c.loop-process.drivers (λ (xs : List FlatComb) (s i : ℕ). times_processed wid s i (wires_in xs)) (λ (xs : List FlatComb) (s : ℕ). assigned_by (wires_in xs) s)
    c.args.combs.now c.loop-process.process-index c.loop-process-test.false (λ s j. refl) (λ s. refl) c.loop-process.invariant
