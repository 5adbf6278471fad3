-- By what each flop takes in a step.
use Rattle.cdc_model.proofs.Taken.{chain_step, chain_run}
use Rattle.cdc_model.proofs.laws.chain_settles.Goals as goal

pub returns : goal.returns
returns c = record {
  step = λ d t syncs laws ok edges old new step only. chain_step d t laws syncs ok edges old new step only;
  run = λ d t syncs laws ok run h only. chain_run d t laws syncs ok run h only;
}
