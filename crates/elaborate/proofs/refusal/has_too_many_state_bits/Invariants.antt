use Rattle.std.proofs.Common.{◌≡◌, ◌+◌, ◌≤◌, drop}
use Rattle.elaborate.specs.Limits.{state_bits}
use Rattle.elaborate.proofs.refusal.has_too_many_state_bits.Given as goal

abbrev pub invariant-loop-signal : goal.invariant-loop-signal
invariant-loop-signal l =
    (l.bits ≤ 4194304) × (state_bits l.signals ≡ l.bits + state_bits (drop l.signal-index l.signals))
