use Rattle.verilog_items.proofs.HeaderSteps as Steps
use Rattle.verilog_items.proofs.header.push_port.Goals as goal

pub returns : goal.returns
returns c = Steps.port_pushed _ _ _ _ _ _ _ _ _ _ _ c.in_ok-push.ensures.pushed c.make_port.ensures c.in_ok-name.ensures c.make_decl-declared.ensures c.in_ok-range.ensures c.in_ok-copy.ensures
