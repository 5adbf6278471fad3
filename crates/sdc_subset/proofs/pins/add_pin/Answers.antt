use Rattle.std.proofs.Common.{arith}
use Rattle.std.proofs.lemmas.Grind.{common_steps}
use Rattle.sdc_subset.proofs.Lookups.{names-snoc}
use Rattle.sdc_subset.proofs.pins.add_pin.Goals as goal

pub returns-clause-called : goal.returns-clause-called
returns-clause-called c = let names = names-snoc c.args.pins.now c.args.pin.now in grind (arith, common_steps)
