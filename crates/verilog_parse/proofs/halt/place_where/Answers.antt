use Rattle.std.proofs.Common.{◌-◌, length, rules}
use Rattle.verilog_parse.proofs.ParseSteps as Steps
use Rattle.verilog_parse.proofs.halt.place_where.Goals as goal

pub returns-in-Some : goal.returns-in-Some
returns-in-Some c = Steps.place_found c.args.tokens.now _ (length c.args.tokens.now - c.args.left) c.in-Some.token.now c.in-Some.ensures.lookup.1 (search rules)

pub returns-in-None : goal.returns-in-None
returns-in-None c = Steps.place_past c.args.tokens.now _ (length c.args.tokens.now - c.args.left) c.in-None.ensures.lookup.3 (search rules)
