-- The bits so far are added.
use Rattle.std.proofs.Common.{◌≡◌, ◌⊎◌, ◌↔◌, true, Contains, take}
use Rattle.std.specs.HashSet as set
use Rattle.cdc_base.specs.declared.bit.Bit.{Bit}
use Rattle.fifo_ways.specs.Marked.{same_bit}
use Rattle.fifo_scheme.proofs.judge.add_words.Given as goal

abbrev pub invariant-loop-bit : goal.invariant-loop-bit
invariant-loop-bit l = (b : Bit) → (set.contains same_bit l.words b ≡ true) ↔ ((set.contains same_bit l.initial.words b ≡ true) ⊎ Contains (take l.bit-index l.bits) b)
