use Rattle.std.proofs.Common.{◌≤◌, ℕ, subst, sym, ◌^◌}
use Rattle.cert_text.proofs.Cuts.{value_over}
use Rattle.cert_text.proofs.words.value.Goals as goal

pub returns-in_default : goal.returns-in_default
returns-in_default c = subst (λ (n : ℕ). 2 ^ 64 ≤ n) (sym c.loop-digit.invariant)
    (value_over c.loop-digit.value (2 ^ 64) c.args.text.now c.loop-digit.digit-index c.loop-digit-test.true c.in_default.ensures)
