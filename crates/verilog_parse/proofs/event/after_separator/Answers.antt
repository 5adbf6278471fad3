use Rattle.verilog_parse.proofs.EventSteps as Steps
use Rattle.verilog_parse.proofs.event.after_separator.Goals as goal

pub returns-in-Some-clause-found : goal.returns-in-Some-clause-found
returns-in-Some-clause-found c = Steps.comma_separates _ c.args.tokens.now _ c.in-Some.ensures.found.1

pub returns-clause-found : goal.returns-clause-found
returns-clause-found c = Steps.or_separates _ c.args.tokens.now _ c.in_ok-rest.ensures.found.1
