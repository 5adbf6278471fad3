use Rattle.std.proofs.Common.{arith, rules}
use Rattle.std.proofs.lemmas.Result.{err_from_is_err_and}
use Rattle.verilog_reading.specs.ItemReading.{first_shape}
use Rattle.verilog_items.proofs.HeaderSteps as Steps
use Rattle.verilog_items.proofs.header.read_adecls.Goals as goal

pub returns-in_err-first-clause-halts : goal.returns-in_err-first-clause-halts
returns-in_err-first-clause-halts c = let p = err_from_is_err_and c.from_residual.result c.from_residual.ensures.1 in
    rw (p.1, p.2) (Steps.entries_first_halts 255 c.args.tokens.now _ c.in_err-first.ensures.halts)

pub loop-after-init : goal.loop-after-init
loop-after-init c = record {
  lists = Steps.entries_first 255 c.args.tokens.now _ _ _ _ (search rules) (c.in_ok-first.ensures.read first_shape);
  shorter = omega (arith, c.in_ok-first.ensures.shorter);
}

pub returns-in_err-next-clause-halts : goal.returns-in_err-next-clause-halts
returns-in_err-next-clause-halts c = let p = err_from_is_err_and c.from_residual-in_err-next.result c.from_residual-in_err-next.ensures.1 in
    rw (p.1, p.2) (Steps.entries_stop 255 c.args.tokens.now _ _ _ _ _ _ c.loop-after.invariant.lists c.in-Some.ensures.found.1 c.in_err-next.ensures.halts)

pub loop-after-preserved : goal.loop-after-preserved
loop-after-preserved c = record {
  lists = Steps.entries_more 255 c.args.tokens.now _ _ _ _ _ _ _ _ c.loop-after.invariant.lists c.in-Some.ensures.found.1 c.in_ok-next.ensures.read;
  shorter = omega (arith, c.in_ok-next.ensures.shorter, c.in-Some.ensures.shorter, c.loop-after.invariant.shorter);
}

pub returns-in_err-rest-clause-halts : goal.returns-in_err-rest-clause-halts
returns-in_err-rest-clause-halts c = let p = err_from_is_err_and c.from_residual-in_err-rest.result c.from_residual-in_err-rest.ensures.1 in
    rw (p.1, p.2) (Steps.entries_open 255 c.args.tokens.now _ _ _ _ c.loop-after.invariant.lists c.in_default.ensures.free c.in_err-rest.ensures.free c.in_err-rest.ensures.refused)

pub returns-clause-read : goal.returns-clause-read
returns-clause-read c = Steps.entries_end 255 c.args.tokens.now _ _ _ _ _ c.loop-after.invariant.lists c.in_default.ensures.free c.in_ok-rest.ensures.found.1
