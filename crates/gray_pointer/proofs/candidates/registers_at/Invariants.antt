-- All are those found and those at the places to come.
use Rattle.std.proofs.Common.{◌≡◌, ◌++◌, drop}
use Rattle.gray_pointer.specs.Registers.{taken_at}
use Rattle.gray_pointer.proofs.candidates.registers_at.Given as goal

abbrev pub invariant-loop-place : goal.invariant-loop-place
invariant-loop-place l = taken_at l.registers l.places ≡ l.found.items ++ taken_at l.registers (drop l.place-index l.places)
