use Rattle.std.proofs.Common.{get_or}
use Rattle.std.proofs.lemmas.List.{drop_more}
use Rattle.flat_meaning.specs.Design.{width_in}
use Rattle.flat_form.specs.Masks.{bits_in}
use Rattle.flat_drivers.proofs.Sharing.{remains-start, remains-step, remains-end}
use Rattle.flat_drivers.proofs.clocked.add_signals.Goals as goal

pub loop-sig-init : goal.loop-sig-init
loop-sig-init c = λ d. remains-start (width_in c.args.signals.now) c.args.edges (bits_in c.args.may.now) c.args.assigned.now c.args.bits.now d

pub loop-sig-preserved : goal.loop-sig-preserved
loop-sig-preserved c = λ d.
    let all = c.args.assigned.now in
    let k = c.loop-sig.sig-index in
    let x = get_or all k 0 in
    remains-step (width_in c.args.signals.now) c.args.edges (bits_in c.args.may.now) all k x c.of.result c.args.bits.now c.loop-sig.bits c.add.new.self (drop_more all k 0 c.loop-sig-test.true) c.of.ensures.bits (c.loop-sig.invariant d) c.in_ok-add.ensures

pub returns : goal.returns
returns c = λ d. remains-end (width_in c.args.signals.now) c.args.edges (bits_in c.args.may.now) c.args.assigned.now c.loop-sig.sig-index c.args.bits.now c.loop-sig.bits c.loop-sig-test.false (c.loop-sig.invariant d)
