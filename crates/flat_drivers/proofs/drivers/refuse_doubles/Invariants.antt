use Rattle.std.proofs.Common.{◌≡◌, ℕ, ◌^◌, ◌<◌, ◌≤◌, Bool, drop, length}
use Rattle.std.specs.Prelude.{All}
use Rattle.cdc_base.specs.declared.signal.Signal.{Signal}
use Rattle.flat_meaning.specs.Design.{width_in}
use Rattle.flat_form.specs.Masks.{bits_in}
use Rattle.flat_unfolding.specs.Drivers.{refuse_first}
use Rattle.flat_drivers.proofs.drivers.refuse_doubles.Given as goal

abbrev pub invariant-loop-number : goal.invariant-loop-number
invariant-loop-number l = (double : ℕ → ℕ → Bool) → All (λ (x : Signal). x.width ≤ 64) l.signals → length l.signals ≤ 2 ^ 32
    → ((s i : ℕ) → i < width_in l.signals s → i < 64 → bits_in l.doubles s i ≡ double s i)
    → refuse_first 309 (λ s x i. double s i) 0 l.signals ≡ refuse_first 309 (λ s x i. double s i) l.number (drop l.number l.signals)
