use Rattle.std.proofs.Common.{get_or, refl}
use Rattle.std.proofs.lemmas.List.{drop_more}
use Rattle.flat_meaning.specs.Design.{width_in}
use Rattle.flat_form.specs.Masks.{bits_in}
use Rattle.flat_drivers.proofs.Counted.{driven_of, assigning_of, reached-start, wires-turn, list-end}
use Rattle.flat_drivers.proofs.drivers.add_wires.Goals as goal

pub loop-sig-init : goal.loop-sig-init
loop-sig-init c = λ d. (d, reached-start (width_in c.args.signals.now) c.args.drivers.now (driven_of (bits_in c.args.may.now) c.args.assigned.now) (assigning_of c.args.assigned.now))

pub loop-sig-preserved : goal.loop-sig-preserved
loop-sig-preserved c = λ d.
    let wid = width_in c.args.signals.now in
    let all = c.args.assigned.now in
    let k = c.loop-sig.sig-index in
    let x = get_or all k 0 in
    let h = c.loop-sig.invariant d in
    wires-turn wid c.args.drivers.now c.loop-sig.drivers c.add_process.new.self c.add.new.self (bits_in c.args.may.now) all k x c.of.result (drop_more all k 0 c.loop-sig-test.true) c.of.ensures.bits h.0 h.1 c.in_ok-add_process.ensures (c.in_ok-add.ensures wid)

pub returns : goal.returns
returns c = λ d.
    let wid = width_in c.args.signals.now in
    list-end wid c.args.drivers.now c.loop-sig.drivers (driven_of (bits_in c.args.may.now)) assigning_of c.args.assigned.now c.loop-sig.sig-index c.loop-sig-test.false (λ s j. refl) (λ s. refl) (c.loop-sig.invariant d).1
