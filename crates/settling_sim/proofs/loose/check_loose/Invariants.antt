use Rattle.std.proofs.Common.{◌≡◌, drop}
use Rattle.cdc_model.specs.Replay.{first_fault}
use Rattle.settling_sim.specs.Design.{copied_in}
use Rattle.settling_sim.specs.Loose.{is_loose_in, race_fault_by}
use Rattle.settling_sim.proofs.loose.check_loose.Given as goal

abbrev pub invariant-loop-race : goal.invariant-loop-race
invariant-loop-race l =
    let loose = is_loose_in l.design.domains.now (copied_in l.design.cells.items l.design.copies) l.moment.words.items l.moment.cycles.items l.after in
    first_fault (race_fault_by loose) l.races ≡ first_fault (race_fault_by loose) (drop l.race-index l.races)
