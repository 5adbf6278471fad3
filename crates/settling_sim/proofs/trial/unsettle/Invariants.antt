use Rattle.std.proofs.Common.{◌≡◌, drop}
use Rattle.settling_sim.specs.Design.{copied_in}
use Rattle.settling_sim.specs.Loose.{needed_by}
use Rattle.settling_sim.specs.Trial.{unsettle}
use Rattle.settling_sim.proofs.trial.unsettle.Given as goal

abbrev pub invariant-loop-race : goal.invariant-loop-race
invariant-loop-race l = unsettle (λ x. needed_by l.design.domains.now l.before x (copied_in l.design.cells.items l.design.copies x)) l.races l.initial.cycles
    ≡ unsettle (λ x. needed_by l.design.domains.now l.before x (copied_in l.design.cells.items l.design.copies x)) (drop l.race-index l.races) l.cycles
