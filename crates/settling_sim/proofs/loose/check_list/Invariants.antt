use Rattle.std.proofs.Common.{◌≡◌, drop}
use Rattle.settling_sim.specs.Design.{copied_in}
use Rattle.settling_sim.specs.Loose.{is_loose_in, list_fault}
use Rattle.settling_sim.proofs.loose.check_list.Given as goal

abbrev pub invariant-loop-source : goal.invariant-loop-source
invariant-loop-source l =
    let loose = is_loose_in l.design.domains.now (copied_in l.design.cells.items l.design.copies) l.moment.words.items l.moment.cycles.items l.after in
    list_fault loose l.bit l.list ≡ list_fault loose l.bit (drop l.source-index l.list)
