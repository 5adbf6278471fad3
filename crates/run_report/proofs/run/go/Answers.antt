use Rattle.std.proofs.Common.{Ok, Err}
use Rattle.run_report.proofs.Going.{stepped-whole, leads, refused-at}
use Rattle.run_report.proofs.run.go.Goals as goal

pub returns-in-Ok-clause-exact : goal.returns-in-Ok-clause-exact
returns-in-Ok-clause-exact c = λ can fits.
    leads c.args.sim.now c.step.new.self c.args.step.now c.step.ensures.net c.step.ensures.domains
    (stepped-whole c.args.sim.now c.step.new.self c.args.step.now c.as_slice.result.now c.as_slice-2.result.now c.as_slice-3.result.now (Ok tt) c.as_slice.ensures c.as_slice-2.ensures c.as_slice-3.ensures
    c.in-Ok.ensures.exact can fits)

pub returns-in-Err-clause-exact : goal.returns-in-Err-clause-exact
returns-in-Err-clause-exact c = λ can fits.
    refused-at c.args.net.now c.args.sim.now c.step.new.self c.args.number c.args.step.now c.in-Err.fault c.refused_step.result
    (stepped-whole c.args.sim.now c.step.new.self c.args.step.now c.as_slice.result.now c.as_slice-2.result.now c.as_slice-3.result.now (Err c.in-Err.fault) c.as_slice.ensures c.as_slice-2.ensures c.as_slice-3.ensures
    c.in-Err.ensures.exact can fits) c.refused_step.ensures.stop
