use Rattle.std.proofs.Common.{arith}
use Rattle.std.proofs.lemmas.Grind.{common_steps}
use Rattle.domains.proofs.Names.{or-step, or-none}
use Rattle.domains.proofs.table.bit_table.Goals as goal

pub loop-name-preserved : goal.loop-name-preserved
loop-name-preserved c = λ q. grind (arith, common_steps, or-step, c.loop-name.invariant q)

pub returns : goal.returns
returns c = λ q. grind (arith, common_steps, or-none, c.loop-name.invariant q)
