use Rattle.std.proofs.Common.{ℕ, nat_le, ap, ◌∙◌}
use Rattle.std.proofs.lemmas.Result.{IfOk-weaker}
use Rattle.flat_meaning.specs.Design.{width_in, once}
use Rattle.flat_unfolding.specs.Drivers.{assigned_by}
use Rattle.flat_drivers.specs.Driving.{clocked_in, bodies_in, is_among}
use Rattle.flat_drivers.proofs.Counted.{more-same, some-assigns}
use Rattle.flat_drivers.proofs.drivers.add_clocked_processes.Goals as goal

pub returns : goal.returns
returns c =
    let wid = width_in c.args.signals.now in
    let ps = c.args.clocked.now in
    let all = c.signals.result.now in
    let some = λ (s : ℕ). nat_le 1 (assigned_by (bodies_in ps) s) in
    let listed = λ (s : ℕ). c.signals.ensures.exact s ∙ c.in_ok-registers.ensures s ∙ some-assigns (clocked_in ps) s in
    IfOk-weaker c.add_registers.result _ _ (λ _ h. more-same wid c.args.drivers.now c.add_registers.new.drivers (λ s i. once (is_among all s)) (λ s i. once (some s)) (λ s. once (is_among all s)) (λ s. once (some s))
    (record { at = λ s i l m. ap once (listed s) }) (λ s. ap once (listed s)) h) (c.add_registers.ensures c.signals.ensures.distinct)
