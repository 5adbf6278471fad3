use Rattle.std.proofs.Common.{arith}
use Rattle.std.proofs.lemmas.Grind.{common_steps}
use Rattle.sdc_subset.proofs.Lookups.{group-there}
use Rattle.sdc_subset.proofs.groups.group_in.Goals as goal

pub returns-in-Some-get : goal.returns-in-Some-get
returns-in-Some-get c = let there = group-there c.args.clock.now c.args.members.now in grind (arith, common_steps)

pub returns-in-None : goal.returns-in-None
returns-in-None c = let there = group-there c.args.clock.now c.args.members.now in grind (arith, common_steps)
