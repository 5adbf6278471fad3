use Rattle.std.proofs.Common.{◌≡◌, ◌+◌, ◌∷◌, List, drop, sym, ap, subst, ◌∙◌}
use Rattle.std.specs.Prelude.{slice_get}
use Rattle.std.specs.Option.{option_copied}
use Rattle.flat_meaning.specs.Design.{width_in}
use Rattle.flat_unfolding.specs.Drivers.{Process}
use Rattle.flat_drivers.specs.Clocked.{process_of, processes_in}
use Rattle.flat_drivers.proofs.Sharing.{AreLeft, left-step, left-end, entry-at, next-process, no-process}
use Rattle.flat_drivers.proofs.clocked.shared_bits.Goals as goal

pub loop-number-preserved : goal.loop-number-preserved
loop-number-preserved c =
    let wid = width_in c.args.signals.now in
    let cs = c.args.clocked.now in
    let rs = c.args.resets.now in
    let k = c.loop-number.number in
    let x = c.index-clocked-number.result in
    let p = process_of x (option_copied c.get.result) in
    let rest = processes_in (drop (k + 1) cs) (drop (k + 1) rs) in
    let all = processes_in cs rs in
    let found = c.get.ensures.lookup in
    let same : option_copied c.get.result ≡ slice_get rs k = entry-at rs k c.get.result found.0 found.1 in
    left-step wid p rest all c.loop-number.bits c.add_process.new.bits
    (subst (λ (ps : List Process). AreLeft wid c.loop-number.bits ps all) (next-process cs rs k x c.loop-number-test.true c.index-clocked-number.is ∙ sym (ap (λ o. process_of x o ∷ rest) same)) c.loop-number.invariant)
    c.in_ok-add_process.ensures

pub returns : goal.returns
returns c =
    let cs = c.args.clocked.now in
    let rs = c.args.resets.now in
    let k = c.loop-number.number in
    left-end (width_in c.args.signals.now) c.loop-number.bits (processes_in (drop k cs) (drop k rs)) (processes_in cs rs) (no-process cs rs k c.loop-number-test.false) c.loop-number.invariant
