use Rattle.std.proofs.Common.{List, refl}
use Rattle.flat_meaning.specs.Deps.{union}
use Rattle.flat_meaning.specs.Design.{width_in}
use Rattle.flat_form.specs.declared.flat.FlatAssign.{FlatAssign}
use Rattle.flat_form.specs.View.{expr_of, target_of}
use Rattle.flat_form.specs.Masks.{bits_in}
use Rattle.flat_meaning.specs.Law.{expr_reads}
use Rattle.flat_form.specs.Uses.{target_reads}
use Rattle.flat_form.proofs.ExprUses.{list-step}
use Rattle.flat_drivers.proofs.Reading.{reads-end}
use Rattle.flat_drivers.specs.Driving.{assigned_in, assigns_read}
use Rattle.flat_drivers.proofs.reads.add_all_assign_reads.Goals as goal

pub loop-assign-preserved : goal.loop-assign-preserved
loop-assign-preserved c =
    let wid = width_in c.args.signals.now in
    let rs = λ (xs : List FlatAssign). assigns_read wid (assigned_in xs) in
    let all = c.args.assigns.now in
    list-step rs (λ (a : FlatAssign). union (expr_reads wid (expr_of a.value)) (target_reads wid (target_of a.target))) (bits_in c.args.reads.now) c.loop-assign.reads c.add_assign_reads.new.reads (rs all) all c.loop-assign.assign-index c.assign-item.result
    c.loop-assign-test.true c.assign-item.is refl c.loop-assign.invariant c.in_ok-add_assign_reads.ensures

pub returns : goal.returns
returns c =
    let wid = width_in c.args.signals.now in
    let rs = λ (xs : List FlatAssign). assigns_read wid (assigned_in xs) in
    let all = c.args.assigns.now in
    reads-end rs c.args.reads.now c.loop-assign.reads (rs all) all c.loop-assign.assign-index c.loop-assign-test.false refl c.loop-assign.invariant
