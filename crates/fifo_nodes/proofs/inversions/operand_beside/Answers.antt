-- The one is known, or the other one, or neither.
use Rattle.std.proofs.Common.{◌∙◌, sym, []}
use Rattle.fifo_nodes.proofs.BareNodes.{seen_first}
use Rattle.fifo_nodes.proofs.inversions.operand_beside.Goals as goal

pub returns-in-Some : goal.returns-in-Some
returns-in-Some c = λ net shown one another.
    seen_first net.graph c.args.one c.args.another c.in-Some.value (sym (c.known_value.ensures.net net [] shown one) ∙ c.in-Some.is)
