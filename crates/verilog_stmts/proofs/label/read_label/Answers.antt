use Rattle.std.proofs.Common.{rules}
use Rattle.verilog_stmts.proofs.LabelSteps as Steps
use Rattle.verilog_stmts.proofs.label.read_label.Goals as goal

pub returns-in-Some-clause-read : goal.returns-in-Some-clause-read
returns-in-Some-clause-read c = Steps.label_mask _ c.args.masks _ _ _ _ (search rules) c.in-Some.ensures.found.1 c.in-Some.ensures.found.2
