use Rattle.run_file.specs.Numbers.{record_numbers}
use Rattle.run_file.proofs.Places.{stop-listed}
use Rattle.run_file.proofs.refusal.refuse.Goals as goal

pub returns-clause-numbered : goal.returns-clause-numbered
returns-clause-numbered c = stop-listed record_numbers c.args.number c.args.name.now _ c.requires c.refuse.ensures
