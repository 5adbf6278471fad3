-- Each chain is the only one from its first flop on, and crossings into plain copies have ends of their own.
use Rattle.cdc_model.proofs.Synced.{syncs_are_all as all_listed}
use Rattle.cdc_model.proofs.laws.syncs_are_all.Goals as goal

pub returns : goal.returns
returns c = λ net domains grays is fit. all_listed net domains grays is fit
