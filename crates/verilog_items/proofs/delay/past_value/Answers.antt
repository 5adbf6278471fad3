use Rattle.verilog_exprs.proofs.DvalSteps as Steps
use Rattle.verilog_items.proofs.delay.past_value.Goals as goal

pub returns-in-Some-clause-found : goal.returns-in-Some-clause-found
returns-in-Some-clause-found c = Steps.number_value c.args.tokens.now _ c.in-Some.ensures.found.0 c.in-Some.ensures.found.1

pub returns-in-Some-after_ident-clause-found : goal.returns-in-Some-after_ident-clause-found
returns-in-Some-after_ident-clause-found c = Steps.name_value c.args.tokens.now _ _ c.in-Some-after_ident.ensures.found.1
