use Rattle.std.proofs.Common.{◌≡◌, ◌≤◌, ◌^◌, drop, length}
use Rattle.std.specs.List.{position_from}
use Rattle.std.specs.Str.{bytes_eq}
use Rattle.cdc_base.specs.declared.signal.Signal.{Signal}
use Rattle.clock_constraints.specs.Refusals.{Text}
use Rattle.domains.specs.Tables.{found_in, or_else, first_signal}
use Rattle.domains.proofs.table.signal_table.Given as goal

abbrev pub invariant-loop-place : goal.invariant-loop-place
invariant-loop-place l = length l.signals ≤ 2 ^ 32 → (q : Text)
    → or_else (found_in l.table q) (position_from (λ (x : Signal). bytes_eq q x.name) l.place (drop l.place l.signals)) ≡ first_signal l.signals q
