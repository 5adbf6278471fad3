use Rattle.std.proofs.Common.{◌≡◌, sym, rules, Some, None}
use Rattle.cdc_model.specs.Replay.{first_fault}
use Rattle.settling_sim.specs.Design.{copied_in}
use Rattle.settling_sim.specs.Faults.{meant}
use Rattle.settling_sim.specs.Loose.{is_loose_in, race_fault_by}
use Rattle.settling_sim.proofs.Faults.{first-stops, first-goes}
use Rattle.settling_sim.proofs.loose.check_loose.Goals as goal

pub returns-in_err-check_race : goal.returns-in_err-check_race
returns-in_err-check_race c =
    let loose = is_loose_in c.args.design.now.domains.now (copied_in c.args.design.now.cells.items c.args.design.now.copies) c.args.moment.now.words.items c.args.moment.now.cycles.items c.args.after.now in
    let whole : first_fault (race_fault_by loose) c.args.races.now ≡ Some (meant c.in_err-check_race.field-0.0)
    = first-stops (race_fault_by loose) c.args.races.now c.loop-race.race-index c.race-item.result _ _ c.loop-race.invariant c.loop-race-test.true (sym c.race-item.is) c.in_err-check_race.ensures in
    search rules

pub loop-race-preserved : goal.loop-race-preserved
loop-race-preserved c =
    let loose = is_loose_in c.args.design.now.domains.now (copied_in c.args.design.now.cells.items c.args.design.now.copies) c.args.moment.now.words.items c.args.moment.now.cycles.items c.args.after.now in
    first-goes (race_fault_by loose) c.args.races.now c.loop-race.race-index c.race-item.result _ c.loop-race.invariant c.loop-race-test.true (sym c.race-item.is) c.in_ok-check_race.ensures
