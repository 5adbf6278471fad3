use Rattle.std.proofs.Common.{refl, rules}
use Rattle.verilog_parse.proofs.ParseSteps as Steps
use Rattle.verilog_parse.proofs.halt.stop_at.Goals as goal

pub returns-in_default-clause-told : goal.returns-in_default-clause-told
returns-in_default-clause-told c = Steps.stops_for_memory c.args.tokens.now c.args.halt _ refl

pub returns-in_default-from_text-clause-told : goal.returns-in_default-from_text-clause-told
returns-in_default-from_text-clause-told c = Steps.stops_for_memory c.args.tokens.now c.args.halt _ refl

pub returns-clause-told : goal.returns-clause-told
returns-clause-told c = Steps.told_where c.args.tokens.now c.args.halt _ c.in-Refused.deep c.in-Refused.left _ (search rules) refl c.number_of.ensures.is (search rules) c.place_where.ensures
