-- Step by step.
use Rattle.campaign.proofs.Showing.{found-shows}
use Rattle.campaign.proofs.laws.found_is_capture.Goals as goal

pub returns : goal.returns
returns c = found-shows
