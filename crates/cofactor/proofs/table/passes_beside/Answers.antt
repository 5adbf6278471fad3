use Rattle.std.specs.Prelude.{bit_and}
use Rattle.cofactor.proofs.Beside.{none-beside, zero-of}
use Rattle.cofactor.proofs.table.passes_beside.Goals as goal

pub returns-else-bits_known_to_be-a-ne0 : goal.returns-else-bits_known_to_be-a-ne0
returns-else-bits_known_to_be-a-ne0 c = λ z k l w i small e f lt.
    let first = c.bits_known_to_be.result in
    let second = c.bits_known_to_be-else-bits_known_to_be-a-ne0.result in (
      λ is. none-beside first c.args.a.same i c.if-bits_known_to_be-a-ne0.false (c.bits_known_to_be.ensures l w i small f lt is),
      λ is. none-beside second c.args.b.same i (zero-of (bit_and second c.args.b.same) z) (c.bits_known_to_be-else-bits_known_to_be-a-ne0.ensures k w i small e lt is),
    )
