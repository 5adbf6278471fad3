use Rattle.std.proofs.Common.{ℕ, ◌+◌, ◌≤◌, drop, arith, ◌∙◌}
use Rattle.std.proofs.lemmas.Result.{err_from_is_err_and}
use Rattle.cdc_base.specs.declared.signal.Signal.{Signal}
use Rattle.flat_unfolding.specs.Reads.{first_from}
use Rattle.flat_unfolding.specs.Drivers.{refuse_bit, refuse_first}
use Rattle.flat_drivers.proofs.Trials.{turn, passes, meets-stop, one_signal, mask-is, width_here, trial-end}
use Rattle.flat_drivers.proofs.drivers.refuse_doubles.Goals as goal

pub loop-number-preserved : goal.loop-number-preserved
loop-number-preserved c = λ double h few e.
    let xs = c.args.signals.now in
    let n = c.loop-number.number in
    let x = c.index-signals-number.result in
    let lt = c.loop-number-test.true in
    let is = c.index-signals-number.is in
    let small = one_signal (λ (y : Signal). y.width ≤ 64) xs n x h lt is in
    let p = λ (s : ℕ) (y : Signal) (i : ℕ). double s i in
    let bits = mask-is c.args.doubles.now c.numbered-sig.result n c.of.result x.width xs double (c.numbered-sig.ensures (omega arith)) c.of.ensures.bits e (width_here xs n x lt is) small in
    passes (refuse_first 309 p 0 xs) (refuse_first 309 p (n + 1) (drop (n + 1) xs)) (refuse_bit 309 x (first_from (double n) 0 x.width)) (c.loop-number.invariant double h few e ∙ turn 309 p xs n x lt is) (c.in_ok-refuse_lowest.ensures.exact (double n) small bits)

pub returns-in_err-refuse_lowest-clause-exact : goal.returns-in_err-refuse_lowest-clause-exact
returns-in_err-refuse_lowest-clause-exact c = λ double h few e.
    let xs = c.args.signals.now in
    let n = c.loop-number.number in
    let x = c.index-signals-number.result in
    let lt = c.loop-number-test.true in
    let is = c.index-signals-number.is in
    let small = one_signal (λ (y : Signal). y.width ≤ 64) xs n x h lt is in
    let p = λ (s : ℕ) (y : Signal) (i : ℕ). double s i in
    let bits = mask-is c.args.doubles.now c.numbered-sig.result n c.of.result x.width xs double (c.numbered-sig.ensures (omega arith)) c.of.ensures.bits e (width_here xs n x lt is) small in
    let q = err_from_is_err_and c.from_residual.result c.from_residual.ensures.1 in
    rw (q.1, q.2) (meets-stop (refuse_first 309 p 0 xs) (refuse_first 309 p (n + 1) (drop (n + 1) xs)) (refuse_bit 309 x (first_from (double n) 0 x.width)) c.in_err-refuse_lowest.field-0.0 (c.loop-number.invariant double h few e ∙ turn 309 p xs n x lt is)
    (c.in_err-refuse_lowest.ensures.exact (double n) small bits))

pub returns-clause-exact : goal.returns-clause-exact
returns-clause-exact c = λ double h few e. trial-end 309 (λ s x i. double s i) c.args.signals.now c.loop-number.number c.loop-number-test.false (c.loop-number.invariant double h few e)
