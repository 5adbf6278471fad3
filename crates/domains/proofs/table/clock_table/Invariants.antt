use Rattle.std.proofs.Common.{◌≡◌, ◌≤◌, ◌^◌, drop, length}
use Rattle.std.specs.List.{position_from}
use Rattle.std.specs.Str.{bytes_eq}
use Rattle.clock_constraints.specs.declared.ClockPin.{ClockPin}
use Rattle.clock_constraints.specs.Refusals.{Text}
use Rattle.domains.specs.Tables.{found_in, or_else, first_clock}
use Rattle.domains.proofs.table.clock_table.Given as goal

abbrev pub invariant-loop-place : goal.invariant-loop-place
invariant-loop-place l = length l.clocks ≤ 2 ^ 32 → (q : Text)
    → or_else (found_in l.table q) (position_from (λ (x : ClockPin). bytes_eq q x.name) l.place (drop l.place l.clocks)) ≡ first_clock l.clocks q
