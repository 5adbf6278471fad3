use Rattle.std.proofs.Common.{◌≡◌, ◌∙◌, ap, sym, subst, length, replicate, rules}
use Rattle.std.proofs.lemmas.List.{length-replicate}
use Rattle.cofactor.specs.Shown.{Shown}
use Rattle.cell_graph.specs.declared.net.Net.{Net}
use Rattle.cell_graph.specs.Unfolded.{IsWellFormed}
use Rattle.domains.specs.declared.Domains.{Domains}
use Rattle.settling_sim.specs.Cycles.{settled}
use Rattle.settling_sim.specs.Design.{ShowsCopies}
use Rattle.settling_sim.specs.Present.{IsKept}
use Rattle.settling_sim.proofs.Opened.{opened-all, have-records}
use Rattle.settling_sim.proofs.sim.Sim.open.Goals as goal

pub invariant_of-result : goal.invariant_of-result
invariant_of-result c =
    subst (λ (n : Net). IsKept n c.in_ok-design.design.domains.now c.in_ok-design.design.cells.items c.in_ok-design.design.copies c.in_ok-moment.moment c.in_ok-trial.trial) (sym c.in_ok-design.ensures.net)
    (subst (λ (d : Domains). IsKept c.args.net.now d c.in_ok-design.design.cells.items c.in_ok-design.design.copies c.in_ok-moment.moment c.in_ok-trial.trial) (sym c.in_ok-design.ensures.domains)
    (record {
      are_next = c.in_ok-design.ensures.cells;
      shows = c.in_ok-design.ensures.copies;
      words = c.in_ok-moment.ensures.length;
      cycles = ap length c.in_ok-moment.ensures.cycles ∙ length-replicate (length c.args.net.now.graph.signals) settled;
      room = c.in_ok-trial.ensures;
    }))

pub returns-clause-opened : goal.returns-clause-opened
returns-clause-opened c = λ can starts.
    opened-all c.args.net.now c.args.domains.now c.args.start.now can starts _ _ _ _ c.in_ok-design.ensures.net c.in_ok-design.ensures.domains
    (c.in_ok-moment.ensures.words can.numbered can.fit.ascending) c.in_ok-moment.ensures.cycles

pub returns-clause-recorded : goal.returns-clause-recorded
returns-clause-recorded c = λ fit. have-records c.args.net.now c.args.domains.now fit c.args.start.now

pub returns-in_err-design-clause-recorded : goal.returns-in_err-design-clause-recorded
returns-in_err-design-clause-recorded c = λ fit. have-records c.args.net.now c.args.domains.now fit c.args.start.now

pub returns-in_err-moment-clause-recorded : goal.returns-in_err-moment-clause-recorded
returns-in_err-moment-clause-recorded c = λ fit. have-records c.args.net.now c.args.domains.now fit c.args.start.now

pub returns-in_err-trial-clause-recorded : goal.returns-in_err-trial-clause-recorded
returns-in_err-trial-clause-recorded c = λ fit. have-records c.args.net.now c.args.domains.now fit c.args.start.now
