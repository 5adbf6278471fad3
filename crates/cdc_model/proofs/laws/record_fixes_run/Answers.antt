-- Step by step.
use Rattle.cdc_model.proofs.Exact.{passes_fixed, fixed_passes}
use Rattle.cdc_model.proofs.Replay.{fixed_run}
use Rattle.cdc_model.proofs.laws.record_fixes_run.Goals as goal

pub returns : goal.returns
returns c = record {
  step = λ d s k. (passes_fixed d s k, fixed_passes d s k);
  run = fixed_run;
}
