use Rattle.verilog_parse.proofs.EventSteps as Steps
use Rattle.verilog_parse.proofs.event.edge_kind.Goals as goal

pub returns-in-Some-clause-found : goal.returns-in-Some-clause-found
returns-in-Some-clause-found c = Steps.edge_positive c.args.tokens.now _ _ c.in-Some.ensures.found.1

pub returns-in-Some-after_word-clause-found : goal.returns-in-Some-after_word-clause-found
returns-in-Some-after_word-clause-found c = Steps.edge_negative c.args.tokens.now _ _ c.in_default.ensures.free c.in-Some-after_word.ensures.found.1

pub returns-clause-found : goal.returns-clause-found
returns-clause-found c = Steps.edge_level c.args.tokens.now c.in_default.ensures.free c.in_default-after_word.ensures.free
