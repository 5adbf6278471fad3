use Rattle.std.proofs.Common.{◌≡◌, drop}
use Rattle.cdc_model.specs.Replay.{first_fault}
use Rattle.settling_sim.specs.Loose.{input_unmarked}
use Rattle.settling_sim.proofs.loose.check_inputs.Given as goal

abbrev pub invariant-loop-given : goal.invariant-loop-given
invariant-loop-given l = first_fault (input_unmarked l.domains l.ticking) l.inputs ≡ first_fault (input_unmarked l.domains l.ticking) (drop l.given-index l.inputs)
