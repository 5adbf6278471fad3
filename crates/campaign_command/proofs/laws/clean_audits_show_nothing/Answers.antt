-- What is captured isn't calm.
use Rattle.campaign_command.proofs.Clean.{clean_shows_nothing}
use Rattle.campaign_command.proofs.laws.clean_audits_show_nothing.Goals as goal

pub returns : goal.returns
returns c = clean_shows_nothing
