use Rattle.std.proofs.Common.{◌∙◌}
use Rattle.run_report.specs.Printed.{unsettled_in}
use Rattle.run_report.proofs.Going.{shown-by}
use Rattle.run_report.proofs.run.gone_text.Goals as goal

pub returns : goal.returns
returns c = λ print.
    shown-by c.args.net.now c.args.domains.now c.args.number c.args.step.now c.args.before.now c.args.sim.now.words c.words.result.now c.as_slice.result.now (unsettled_in c.args.sim.now.cycles c.args.registers.now)
    c.step_text.result c.words.ensures (c.as_slice.ensures ∙ c.in_ok-unsettled.ensures) (c.step_text.ensures print)
