-- Those of one bit more, and in the end of all.
use Rattle.std.proofs.Common.{◌↔◌, ◌⊎◌, subst, arith, List, Contains}
use Rattle.std.proofs.lemmas.List.{take_all}
use Rattle.cdc_base.specs.declared.bit.Bit.{Bit}
use Rattle.fifo_parts.specs.Comparisons.{IsAmong, IsAtBit}
use Rattle.fifo_parts.proofs.Comparing.{more_at}
use Rattle.fifo_parts.proofs.flags.Comparisons.by_bits.Goals as goal

pub loop-bit-preserved : goal.loop-bit-preserved
loop-bit-preserved c =
    let old = c.loop-bit.found.items in
    let new = c.add_there.new.found.items in
    more_at (IsAtBit c.args.self.now.by_bit) c.args.bits.now c.loop-bit.bit-index _ c.loop-bit-test.true old new c.loop-bit.invariant
    (λ f. subst (λ o. Contains new f ↔ (Contains old f ⊎ IsAmong o f)) c.get.ensures.value (c.in_ok-add_there.ensures f))

pub returns : goal.returns
returns c = λ f. subst (λ (bs : List Bit). Contains c.loop-bit.found.items f ↔ ((b : Bit) × Contains bs b × IsAtBit c.args.self.now.by_bit b f))
    (take_all c.loop-bit.bit-index c.args.bits.now (let l = c.loop-bit-test.false in omega arith)) (c.loop-bit.invariant f)
