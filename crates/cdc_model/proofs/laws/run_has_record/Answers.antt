-- Step by step, each race with the bits of its set that are read.
use Rattle.cdc_model.proofs.Recorded.{run_recorded}
use Rattle.cdc_model.proofs.laws.run_has_record.Goals as goal

pub returns : goal.returns
returns c = run_recorded
