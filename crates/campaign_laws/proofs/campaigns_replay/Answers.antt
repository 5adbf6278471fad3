use Rattle.campaign_laws.proofs.Replayed.{campaigns-replay}
use Rattle.campaign_laws.proofs.campaigns_replay.Goals as goal

pub returns : goal.returns
returns c = campaigns-replay
