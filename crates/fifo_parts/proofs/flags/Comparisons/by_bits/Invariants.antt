-- What compares one of the bits so far.
use Rattle.std.proofs.Common.{◌↔◌, take, Contains}
use Rattle.cdc_base.specs.declared.bit.Bit.{Bit}
use Rattle.fifo_parts.specs.declared.flags.Flag.{Flag}
use Rattle.fifo_parts.specs.Comparisons.{IsAtBit}
use Rattle.fifo_parts.proofs.flags.Comparisons.by_bits.Given as goal

abbrev pub invariant-loop-bit : goal.invariant-loop-bit
invariant-loop-bit l = (f : Flag) → Contains l.found.items f ↔ ((b : Bit) × Contains (take l.bit-index l.bits) b × IsAtBit l.self.by_bit b f)
