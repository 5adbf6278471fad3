use Rattle.verilog_items.proofs.HeaderSteps as Steps
use Rattle.verilog_items.proofs.header.read_ports.Goals as goal

pub returns-in_default-clause-read : goal.returns-in_default-clause-read
returns-in_default-clause-read c = Steps.ports_none_as 255 c.args.tokens.now _ _ c.in_default.ensures.free c.no_ports.ensures.none c.no_ports.ensures.same

pub returns-in-Some-after_mark-clause-read : goal.returns-in-Some-after_mark-clause-read
returns-in-Some-after_mark-clause-read c = Steps.ports_empty_as 255 c.args.tokens.now _ _ _ _ _ _ c.in-Some.ensures.found.1 c.in-Some-after_mark.ensures.found.1 c.no_ports-in-Some-after_mark.ensures.none c.no_ports-in-Some-after_mark.ensures.same

pub returns-in-Some-after_ident-clause-read : goal.returns-in-Some-after_ident-clause-read
returns-in-Some-after_ident-clause-read c = rw (Steps.ports_old 255 c.args.tokens.now _ _ _ _ _ c.in-Some.ensures.found.1 c.in_default-after_mark.ensures.free c.in-Some-after_ident.ensures.found.1) c.read_names.ensures.read

pub returns-in-Some-after_ident-clause-halts : goal.returns-in-Some-after_ident-clause-halts
returns-in-Some-after_ident-clause-halts c = rw (Steps.ports_old 255 c.args.tokens.now _ _ _ _ _ c.in-Some.ensures.found.1 c.in_default-after_mark.ensures.free c.in-Some-after_ident.ensures.found.1) c.read_names.ensures.halts

pub returns-in-None-clause-read : goal.returns-in-None-clause-read
returns-in-None-clause-read c = rw (Steps.ports_ansi 255 c.args.tokens.now _ _ c.in-Some.ensures.found.1 c.in_default-after_mark.ensures.free c.in-None.ensures.free) c.read_adecls.ensures.read

pub returns-in-None-clause-halts : goal.returns-in-None-clause-halts
returns-in-None-clause-halts c = rw (Steps.ports_ansi 255 c.args.tokens.now _ _ c.in-Some.ensures.found.1 c.in_default-after_mark.ensures.free c.in-None.ensures.free) c.read_adecls.ensures.halts
