use Rattle.std.proofs.Common.{arith}
use Rattle.std.proofs.lemmas.Grind.{common_steps}
use Rattle.domains.proofs.Names.{or-step, or-none}
use Rattle.domains.proofs.table.clock_table.Goals as goal

pub loop-place-preserved : goal.loop-place-preserved
loop-place-preserved c = λ few q. grind (arith, common_steps, or-step, c.loop-place.invariant few q)

pub returns : goal.returns
returns c = λ few q. grind (arith, common_steps, or-none, c.loop-place.invariant few q)
