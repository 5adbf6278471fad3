-- The word xor itself shifted by the next distance.
use Rattle.std.proofs.Common.{◌≡◌, ◌^◌, ◌<◌, ℕ}
use Rattle.gray_pointer.specs.Registers.{number_code}
use Rattle.gray_pointer.proofs.Decoded.{folded}
use Rattle.gray_pointer.proofs.register.decoded.Given as goal

abbrev pub invariant-loop-distance : goal.invariant-loop-distance
invariant-loop-distance l = (word : ℕ) → word < 2 ^ 64 → l.code ≡ number_code word → l.word ≡ folded word (2 ^ l.distance-index)
