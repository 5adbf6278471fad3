use Rattle.std.proofs.Common.{◌∙◌}
use Rattle.flat_process.proofs.ResetSignals.{reset-is}
use Rattle.flat_process.proofs.reset.is_reset.Goals as goal

pub returns : goal.returns
returns c = λ l shows. c.is_some.ensures ∙ reset-is c.args.look.now l shows c.args.sig c.reset.result c.reset.ensures
