use Rattle.campaign_records.proofs.Found.{found-records-are-read}
use Rattle.campaign_records.proofs.found_records_are_read.Goals as goal

pub returns : goal.returns
returns c = found-records-are-read
