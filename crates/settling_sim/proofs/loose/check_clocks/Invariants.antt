use Rattle.std.proofs.Common.{◌≡◌, drop}
use Rattle.cdc_model.specs.Replay.{first_fault}
use Rattle.settling_sim.specs.Loose.{race_unmarked}
use Rattle.settling_sim.proofs.loose.check_clocks.Given as goal

abbrev pub invariant-loop-race : goal.invariant-loop-race
invariant-loop-race l = first_fault (race_unmarked l.domains l.ticking) l.races ≡ first_fault (race_unmarked l.domains l.ticking) (drop l.race-index l.races)
