use Rattle.std.proofs.Common.{◌≡◌, ◌≤◌, ◌^◌, ◌++◌, drop, length}
use Rattle.domains.specs.Tables.{bit_names}
use Rattle.domains.proofs.table.bit_names.Given as goal

abbrev pub invariant-loop-place : goal.invariant-loop-place
invariant-loop-place l = length l.signals ≤ 2 ^ 32 → bit_names 0 l.signals ≡ l.names.items ++ bit_names l.place (drop l.place l.signals)
