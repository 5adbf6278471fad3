-- The places of the idle registers so far stand at their keys.
use Rattle.std.proofs.Common.{◌≡◌, ℕ, ◌<◌, Some, slice_get}
use Rattle.gray_pointer.specs.Counters.{AreRegistersIn, IsIdle, IsPlaced}
use Rattle.gray_pointer.specs.declared.register.Register.{Register}
use Rattle.gray_pointer.specs.Words.{IsPlain}
use Rattle.gray_pointer.proofs.candidates.Candidates.find.Given as goal

abbrev pub invariant-loop-place : goal.invariant-loop-place
invariant-loop-place l = IsPlain l.net.graph → AreRegistersIn l.net.graph l.registers → (place : ℕ) (r : Register) → place < l.place → slice_get l.registers place ≡ Some r → IsIdle l.net.graph r
    → IsPlaced l.net.graph r l.idle place
