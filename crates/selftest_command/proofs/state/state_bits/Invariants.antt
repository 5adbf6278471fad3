use Rattle.std.proofs.Common.{◌≡◌, ◌+◌, ◌≤◌, ◌^◌, length, drop}
use Rattle.std.specs.List.Sorted.{IsStrictlyIncreasing}
use Rattle.selftest_command.specs.Counts.{bits_from, state_bits}
use Rattle.selftest_command.proofs.state.state_bits.Given as goal

abbrev pub invariant-loop-place : goal.invariant-loop-place
invariant-loop-place l = length l.net.graph.signals ≤ 2 ^ 32 → IsStrictlyIncreasing l.domains.statics
    → state_bits l.net l.domains ≡ l.bits + bits_from l.net l.domains l.place (drop l.place l.net.graph.signals)
