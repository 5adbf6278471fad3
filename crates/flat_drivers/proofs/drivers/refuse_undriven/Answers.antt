use Rattle.std.proofs.Common.{ℕ, ◌+◌, ◌≤◌, not, ◌&&◌, ◌==◌, nat_le, drop, arith, ◌∙◌}
use Rattle.std.proofs.lemmas.Result.{err_from_is_err_and}
use Rattle.cdc_base.specs.declared.signal.Signal.{Signal}
use Rattle.flat_unfolding.specs.Reads.{first_from}
use Rattle.flat_unfolding.specs.Drivers.{refuse_bit, refuse_first, is_from_outside}
use Rattle.flat_drivers.proofs.Trials.{turn, passes, meets-stop, one_signal, mask-is, width_here, trial-end, wanting}
use Rattle.flat_drivers.proofs.drivers.refuse_undriven.Goals as goal

pub loop-number-preserved : goal.loop-number-preserved
loop-number-preserved c = λ read times h few e g.
    let xs = c.args.signals.now in
    let n = c.loop-number.number in
    let x = c.index-signals-number.result in
    let lt = c.loop-number-test.true in
    let is = c.index-signals-number.is in
    let small = one_signal (λ (y : Signal). y.width ≤ 64) xs n x h lt is in
    let here = width_here xs n x lt is in
    let same = c.numbered-sig.ensures (omega arith) in
    let p = λ (s : ℕ) (y : Signal) (i : ℕ). not (is_from_outside y.kind) && read s i && (times s i == 0) in
    let bits = wanting x.kind x.width c.of.result c.of-in-loop-number.result c.undriven_bits-undriven.result (read n) (times n) small c.undriven_bits-undriven.ensures
    (mask-is c.args.reads.now c.numbered-sig.result n c.of.result x.width xs read same c.of.ensures.bits g here small)
    (mask-is c.args.drivers.now.once c.numbered-sig.result n c.of-in-loop-number.result x.width xs (λ s i. nat_le 1 (times s i)) same c.of-in-loop-number.ensures.bits e here small) in
    passes (refuse_first 310 p 0 xs) (refuse_first 310 p (n + 1) (drop (n + 1) xs)) (refuse_bit 310 x (first_from (p n x) 0 x.width)) (c.loop-number.invariant read times h few e g ∙ turn 310 p xs n x lt is) (c.in_ok-refuse_lowest.ensures.exact (p n x) small bits)

pub returns-in_err-refuse_lowest-clause-exact : goal.returns-in_err-refuse_lowest-clause-exact
returns-in_err-refuse_lowest-clause-exact c = λ read times h few e g.
    let xs = c.args.signals.now in
    let n = c.loop-number.number in
    let x = c.index-signals-number.result in
    let lt = c.loop-number-test.true in
    let is = c.index-signals-number.is in
    let small = one_signal (λ (y : Signal). y.width ≤ 64) xs n x h lt is in
    let here = width_here xs n x lt is in
    let same = c.numbered-sig.ensures (omega arith) in
    let p = λ (s : ℕ) (y : Signal) (i : ℕ). not (is_from_outside y.kind) && read s i && (times s i == 0) in
    let bits = wanting x.kind x.width c.of.result c.of-in-loop-number.result c.undriven_bits-undriven.result (read n) (times n) small c.undriven_bits-undriven.ensures
    (mask-is c.args.reads.now c.numbered-sig.result n c.of.result x.width xs read same c.of.ensures.bits g here small)
    (mask-is c.args.drivers.now.once c.numbered-sig.result n c.of-in-loop-number.result x.width xs (λ s i. nat_le 1 (times s i)) same c.of-in-loop-number.ensures.bits e here small) in
    let q = err_from_is_err_and c.from_residual.result c.from_residual.ensures.1 in
    rw (q.1, q.2) (meets-stop (refuse_first 310 p 0 xs) (refuse_first 310 p (n + 1) (drop (n + 1) xs)) (refuse_bit 310 x (first_from (p n x) 0 x.width)) c.in_err-refuse_lowest.field-0.0 (c.loop-number.invariant read times h few e g ∙ turn 310 p xs n x lt is)
    (c.in_err-refuse_lowest.ensures.exact (p n x) small bits))

pub returns-clause-exact : goal.returns-clause-exact
returns-clause-exact c = λ read times h few e g.
    trial-end 310 (λ s x i. not (is_from_outside x.kind) && read s i && (times s i == 0)) c.args.signals.now c.loop-number.number c.loop-number-test.false (c.loop-number.invariant read times h few e g)
