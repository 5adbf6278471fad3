use Rattle.verilog_items.proofs.DeclSteps as Steps
use Rattle.verilog_items.proofs.decl.output_kind.Goals as goal

pub returns-clause-found : goal.returns-clause-found
returns-clause-found c = Steps.output_plain c.args.tokens.now _ c.in_default.ensures.free c.without_wire.ensures.found
