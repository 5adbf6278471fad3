use Rattle.std.proofs.Common.{◌≡◌, ℕ, ◌^◌, ◌<◌, ◌≤◌, Bool, not, ◌&&◌, ◌==◌, nat_le, drop, length}
use Rattle.std.specs.Prelude.{All}
use Rattle.cdc_base.specs.declared.signal.Signal.{Signal}
use Rattle.flat_meaning.specs.Design.{width_in}
use Rattle.flat_form.specs.Masks.{bits_in}
use Rattle.flat_unfolding.specs.Drivers.{refuse_first, is_from_outside}
use Rattle.flat_drivers.proofs.drivers.refuse_undriven.Given as goal

abbrev pub invariant-loop-number : goal.invariant-loop-number
invariant-loop-number l = (read : ℕ → ℕ → Bool) (times : ℕ → ℕ → ℕ) → All (λ (x : Signal). x.width ≤ 64) l.signals → length l.signals ≤ 2 ^ 32
    → ((s i : ℕ) → i < width_in l.signals s → i < 64 → bits_in l.drivers.once s i ≡ nat_le 1 (times s i))
    → ((s i : ℕ) → i < width_in l.signals s → i < 64 → bits_in l.reads s i ≡ read s i)
    → refuse_first 310 (λ s x i. not (is_from_outside x.kind) && read s i && (times s i == 0)) 0 l.signals
    ≡ refuse_first 310 (λ s x i. not (is_from_outside x.kind) && read s i && (times s i == 0)) l.number (drop l.number l.signals)
