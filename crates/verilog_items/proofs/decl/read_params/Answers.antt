use Rattle.std.proofs.Common.{arith}
use Rattle.std.proofs.lemmas.Result.{err_from_is_err_and}
use Rattle.verilog_items.proofs.DeclSteps as Steps
use Rattle.verilog_items.proofs.decl.read_params.Goals as goal

pub returns-in_err-range-clause-halts : goal.returns-in_err-range-clause-halts
returns-in_err-range-clause-halts c = let p = err_from_is_err_and c.from_residual.result c.from_residual.ensures.1 in
    rw (p.1, p.2) (Steps.params_range_halts 255 c.args.place c.args.local c.args.tokens.now _ c.in_err-range.ensures.halts)

pub returns-in_err-rest-clause-halts : goal.returns-in_err-rest-clause-halts
returns-in_err-rest-clause-halts c = let p = err_from_is_err_and c.from_residual-in_err-rest.result c.from_residual-in_err-rest.ensures.1 in
    rw (p.1, p.2) (Steps.params_first_halts 255 c.args.place c.args.local c.args.tokens.now _ _ _ c.in_ok-range.ensures.read c.in_err-rest.ensures.halts)

pub loop-after-init : goal.loop-after-init
loop-after-init c = record {
  lists = Steps.params_first 255 c.args.place c.args.local _ c.in_ok-range.range.rest.now _ _ _ c.in_ok-rest.ensures.read;
  shorter = omega (arith, c.in_ok-rest.ensures.shorter, c.in_ok-range.ensures.shorter);
}

pub loop-after-preserved : goal.loop-after-preserved
loop-after-preserved c = record {
  lists = Steps.params_more 255 c.args.place c.args.local _ c.in_ok-range.range.rest.now _ _ _ _ _ _ _ c.loop-after.invariant.lists c.in-Some.ensures.found.1 c.in_ok-rest-2.ensures.read;
  shorter = omega (arith, c.in_ok-rest-2.ensures.shorter, c.in-Some.ensures.shorter, c.loop-after.invariant.shorter);
}

pub returns-in_err-rest-2-clause-halts : goal.returns-in_err-rest-2-clause-halts
returns-in_err-rest-2-clause-halts c = let p = err_from_is_err_and c.from_residual-in_err-rest-2.result c.from_residual-in_err-rest-2.ensures.1 in
    rw (p.1, p.2) (Steps.params_stop 255 c.args.place c.args.local c.args.tokens.now _ _ _ _ _ _ _ _ c.in_ok-range.ensures.read c.loop-after.invariant.lists c.in-Some.ensures.found.1 c.in_err-rest-2.ensures.halts)

pub returns-in_err-rest-3-clause-halts : goal.returns-in_err-rest-3-clause-halts
returns-in_err-rest-3-clause-halts c = let p = err_from_is_err_and c.from_residual-in_err-rest-3.result c.from_residual-in_err-rest-3.ensures.1 in
    rw (p.1, p.2) (Steps.params_open 255 c.args.place c.args.local c.args.tokens.now _ _ _ _ _ _ c.in_ok-range.ensures.read c.loop-after.invariant.lists c.in_default.ensures.free c.in_err-rest-3.ensures.free c.in_err-rest-3.ensures.refused)

pub returns-clause-read : goal.returns-clause-read
returns-clause-read c = Steps.params_end 255 c.args.place c.args.local c.args.tokens.now _ _ _ _ _ _ _ c.in_ok-range.ensures.read c.loop-after.invariant.lists c.in_default.ensures.free c.in_ok-rest-3.ensures.found.1
