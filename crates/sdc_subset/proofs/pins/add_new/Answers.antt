use Rattle.std.proofs.Common.{arith}
use Rattle.std.proofs.lemmas.Grind.{common_steps}
use Rattle.sdc_subset.proofs.Lookups.{not-there}
use Rattle.sdc_subset.proofs.pins.add_new.Goals as goal

pub returns-clause-ports : goal.returns-clause-ports
returns-clause-ports c = let free = not-there c.args.pin.now.port c.args.pins.now c.requires.1 in grind (arith, common_steps)
