-- The places of the registers with the signals so far are there.
use Rattle.std.proofs.Common.{◌≡◌, ℕ, Some, Contains, slice_get, take}
use Rattle.gray_pointer.specs.declared.register.Register.{Register}
use Rattle.gray_pointer.specs.Registers.{Ascend}
use Rattle.gray_pointer.proofs.candidates.places_of.Given as goal

abbrev pub invariant-loop-sig : goal.invariant-loop-sig
invariant-loop-sig l = Ascend l.registers → (place : ℕ) (r : Register) → slice_get l.registers place ≡ Some r → Contains (take l.sig-index l.sigs) r.sig → Contains l.places.items place
