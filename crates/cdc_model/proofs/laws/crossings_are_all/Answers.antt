-- Each of its parts ascends, and has what is read from other groups.
use Rattle.cdc_model.proofs.Found.{crossings_are_all as all_listed}
use Rattle.cdc_model.proofs.laws.crossings_are_all.Goals as goal

pub returns : goal.returns
returns c = all_listed
