use Rattle.std.proofs.Common.{arith}
use Rattle.std.proofs.lemmas.Grind.{common_steps}
use Rattle.domains.proofs.Names.{named-push}
use Rattle.domains.proofs.table.by_name.Goals as goal

pub loop-name-preserved : goal.loop-name-preserved
loop-name-preserved g c = λ q. grind (arith, common_steps, named-push, c.loop-name.invariant q)
