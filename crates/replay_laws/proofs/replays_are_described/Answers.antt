use Rattle.replay_laws.proofs.Described.{replays_are_described}
use Rattle.replay_laws.proofs.replays_are_described.Goals as goal

pub returns : goal.returns
returns c = replays_are_described
