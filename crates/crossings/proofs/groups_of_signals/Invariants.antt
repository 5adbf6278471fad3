-- All groups are those that are there and those of the signals to come.
use Rattle.std.proofs.Common.{◌≡◌, ◌++◌, map, drop, slice_get}
use Rattle.std.specs.Prelude.{option_and_then}
use Rattle.crossings.proofs.groups_of_signals.Given as goal

abbrev pub invariant-loop-clock : goal.invariant-loop-clock
invariant-loop-clock l = map (λ clock. option_and_then (slice_get l.domains.group_by_clock) clock) l.domains.clock_by_sig
    ≡ l.groups.items ++ map (λ clock. option_and_then (slice_get l.domains.group_by_clock) clock) (drop l.clock-index l.clock-items)
