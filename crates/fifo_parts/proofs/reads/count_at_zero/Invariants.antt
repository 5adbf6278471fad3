-- All terms so far are of the signal.
use Rattle.std.proofs.Common.{◌≡◌, ◌⊎◌, ℕ, Some, None}
use Rattle.fifo_parts.specs.Words.{SayZero}
use Rattle.fifo_parts.proofs.reads.count_at_zero.Given as goal

abbrev pub invariant-loop-term : goal.invariant-loop-term
invariant-loop-term l = (sig : ℕ) → SayZero l.net.graph sig l.terms → ((l.term-index ≡ 0) × (l.count ≡ None)) ⊎ (l.count ≡ Some sig)
