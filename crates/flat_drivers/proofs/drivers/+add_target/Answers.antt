use Rattle.std.proofs.Common.{ℕ, List, map, refl, sym, subst, ap, ◌∙◌}
use Rattle.std.proofs.lemmas.Result.{IfOk-weaker}
use Rattle.flat_meaning.specs.Flat.{Target}
use Rattle.flat_meaning.specs.Design.{width_in, times_in, all_times_in}
use Rattle.flat_form.specs.declared.flat.FTarget.{FTarget}
use Rattle.flat_form.specs.View.{target_of, targets_of}
use Rattle.flat_form.proofs.Folds.{target_of-Whole, target_of-At, target_of-Part, target_of-Join}
use Rattle.flat_drivers.specs.Driving.{CountsMore}
use Rattle.flat_drivers.proofs.Counted.{more-none, drives-whole, drives-part, reached-start, list-step, list-end}
use Rattle.flat_drivers.proofs.drivers.+add_target.Goals as goal

pub add_targets-loop-target-init : goal.add_targets-loop-target-init
add_targets-loop-target-init t c = reached-start (width_in c.args.signals.now) c.args.drivers.now (λ s i. all_times_in (width_in c.args.signals.now) s i (targets_of (map target_of c.args.targets.now))) (λ s. 0)

pub add_targets-loop-target-preserved : goal.add_targets-loop-target-preserved
add_targets-loop-target-preserved t c =
    let wid = width_in c.args.signals.now in
    let x = c.target-item.result in
    list-step wid c.args.drivers.now c.loop-target.drivers c.add_target.new.drivers (λ (xs : List FTarget) (s i : ℕ). all_times_in wid s i (targets_of (map target_of xs))) (λ xs s. 0)
    (λ s i. times_in wid s i (target_of x)) (λ s. 0) c.args.targets.now c.loop-target.target-index x c.loop-target-test.true c.target-item.is (record { at = λ s i l m. refl }) (λ s. refl) c.loop-target.invariant c.in_ok-add_target.ensures

pub add_targets-returns : goal.add_targets-returns
add_targets-returns t c =
    let wid = width_in c.args.signals.now in
    list-end wid c.args.drivers.now c.loop-target.drivers (λ (xs : List FTarget) (s i : ℕ). all_times_in wid s i (targets_of (map target_of xs))) (λ xs s. 0) c.args.targets.now c.loop-target.target-index c.loop-target-test.false
    (λ s j. refl) (λ s. refl) c.loop-target.invariant

pub add_target-returns-in-Whole : goal.add_target-returns-in-Whole
add_target-returns-in-Whole t c =
    let wid = width_in c.args.signals.now in
    let sig = c.in-Whole.sig in
    IfOk-weaker c.add.result _ _ (λ _ h. subst (λ (x : Target). CountsMore wid c.args.drivers.now c.add.new.self (λ s i. times_in wid s i x) (λ s. 0)) (sym (ap target_of c.in-Whole.is ∙ target_of-Whole sig))
    (drives-whole wid c.args.drivers.now c.add.new.self sig c.all_bits.result c.all_bits.ensures h)) (c.add.ensures wid)

pub add_target-returns-in-At : goal.add_target-returns-in-At
add_target-returns-in-At t c =
    let wid = width_in c.args.signals.now in
    subst (λ (x : Target). CountsMore wid c.args.drivers.now c.args.drivers.now (λ s i. times_in wid s i x) (λ s. 0)) (sym (ap target_of c.in-At.is ∙ target_of-At c.in-At.sig c.in-At.index))
    (more-none wid c.args.drivers.now)

pub add_target-returns-in-Part : goal.add_target-returns-in-Part
add_target-returns-in-Part t c =
    let wid = width_in c.args.signals.now in
    let p = c.in-Part in
    IfOk-weaker c.add-in-Part.result _ _ (λ _ h. subst (λ (x : Target). CountsMore wid c.args.drivers.now c.add-in-Part.new.self (λ s i. times_in wid s i x) (λ s. 0)) (sym (ap target_of p.is ∙ target_of-Part p.sig p.at p.width))
    (drives-part wid c.args.drivers.now c.add-in-Part.new.self p.sig c.bits.result p.at p.width c.bits.ensures h)) (c.add-in-Part.ensures wid)

pub add_target-returns-in-Join : goal.add_target-returns-in-Join
add_target-returns-in-Join t c =
    let wid = width_in c.args.signals.now in
    IfOk-weaker c.add_targets.result _ _ (λ _ h. subst (λ (x : Target). CountsMore wid c.args.drivers.now c.add_targets.new.drivers (λ s i. times_in wid s i x) (λ s. 0)) (sym (ap target_of c.in-Join.is ∙ target_of-Join c.in-Join.parts))
    (subst (λ (ts : List FTarget). CountsMore wid c.args.drivers.now c.add_targets.new.drivers (λ s i. all_times_in wid s i (targets_of (map target_of ts))) (λ s. 0)) c.as_slice.ensures h)) c.add_targets.ensures
