use Rattle.verilog_parse.proofs.ModuleSteps as Steps
use Rattle.verilog_parse.proofs.module.read_item.Goals as goal

pub returns-in-Some-clause-read : goal.returns-in-Some-clause-read
returns-in-Some-clause-read c = rw (Steps.item_decls 255 c.in-Some.kind c.args.tokens.now c.in-Some.rest.now _ c.place_of-place.ensures c.in-Some.ensures.item) c.read_decls.ensures.read

pub returns-in-Some-clause-halts : goal.returns-in-Some-clause-halts
returns-in-Some-clause-halts c = rw (Steps.item_decls 255 c.in-Some.kind c.args.tokens.now c.in-Some.rest.now _ c.place_of-place.ensures c.in-Some.ensures.item) c.read_decls.ensures.halts

pub returns-in-Some-after_parameter-clause-read : goal.returns-in-Some-after_parameter-clause-read
returns-in-Some-after_parameter-clause-read c = rw (Steps.item_params 255 c.in-Some-after_parameter.local c.args.tokens.now c.in-Some-after_parameter.rest.now _ c.place_of-place.ensures c.in_default.ensures.free c.in-Some-after_parameter.ensures.item) c.read_params.ensures.read

pub returns-in-Some-after_parameter-clause-halts : goal.returns-in-Some-after_parameter-clause-halts
returns-in-Some-after_parameter-clause-halts c = rw (Steps.item_params 255 c.in-Some-after_parameter.local c.args.tokens.now c.in-Some-after_parameter.rest.now _ c.place_of-place.ensures c.in_default.ensures.free c.in-Some-after_parameter.ensures.item) c.read_params.ensures.halts

pub returns-in-Some-after_word-clause-read : goal.returns-in-Some-after_word-clause-read
returns-in-Some-after_word-clause-read c = rw (Steps.item_assigns 255 c.args.tokens.now _ _ _ c.place_of-place.ensures c.in_default.ensures.free c.in_default-after_parameter.ensures.free c.in-Some-after_word.ensures.found.1) c.read_assigns.ensures.read

pub returns-in-Some-after_word-clause-halts : goal.returns-in-Some-after_word-clause-halts
returns-in-Some-after_word-clause-halts c = rw (Steps.item_assigns 255 c.args.tokens.now _ _ _ c.place_of-place.ensures c.in_default.ensures.free c.in_default-after_parameter.ensures.free c.in-Some-after_word.ensures.found.1) c.read_assigns.ensures.halts

pub returns-in-Some-after_gate-clause-read : goal.returns-in-Some-after_gate-clause-read
returns-in-Some-after_gate-clause-read c = rw (Steps.item_gates 255 c.args.tokens.now _ _ _ c.place_of-place.ensures c.in_default.ensures.free c.in_default-after_parameter.ensures.free c.in_default-after_word.ensures.free c.in-Some-after_gate.ensures.found) c.read_gates.ensures.read

pub returns-in-Some-after_gate-clause-halts : goal.returns-in-Some-after_gate-clause-halts
returns-in-Some-after_gate-clause-halts c = rw (Steps.item_gates 255 c.args.tokens.now _ _ _ c.place_of-place.ensures c.in_default.ensures.free c.in_default-after_parameter.ensures.free c.in_default-after_word.ensures.free c.in-Some-after_gate.ensures.found) c.read_gates.ensures.halts

pub returns-in-Some-after_ident-clause-read : goal.returns-in-Some-after_ident-clause-read
returns-in-Some-after_ident-clause-read c = rw (Steps.item_instances 255 c.args.tokens.now _ _ _ _ c.place_of-place.ensures c.in_default.ensures.free c.in_default-after_parameter.ensures.free c.in_default-after_word.ensures.free c.in_default-after_gate.ensures.free c.in-Some-after_ident.ensures.found.1) c.read_instances.ensures.read

pub returns-in-Some-after_ident-clause-halts : goal.returns-in-Some-after_ident-clause-halts
returns-in-Some-after_ident-clause-halts c = rw (Steps.item_instances 255 c.args.tokens.now _ _ _ _ c.place_of-place.ensures c.in_default.ensures.free c.in_default-after_parameter.ensures.free c.in_default-after_word.ensures.free c.in_default-after_gate.ensures.free c.in-Some-after_ident.ensures.found.1) c.read_instances.ensures.halts

pub returns-clause-read : goal.returns-clause-read
returns-clause-read c = rw (Steps.item_process 255 c.args.tokens.now c.in_default.ensures.free c.in_default-after_parameter.ensures.free c.in_default-after_word.ensures.free c.in_default-after_gate.ensures.free c.in_default-after_ident.ensures.free) c.read_process.ensures.read

pub returns-clause-halts : goal.returns-clause-halts
returns-clause-halts c = rw (Steps.item_process 255 c.args.tokens.now c.in_default.ensures.free c.in_default-after_parameter.ensures.free c.in_default-after_word.ensures.free c.in_default-after_gate.ensures.free c.in_default-after_ident.ensures.free) c.read_process.ensures.halts
