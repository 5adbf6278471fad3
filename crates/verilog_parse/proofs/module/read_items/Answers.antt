use Rattle.std.proofs.Common.{arith, rules}
use Rattle.std.proofs.lemmas.Result.{err_from_is_err_and}
use Rattle.verilog_parse.proofs.ModuleSteps as Steps
use Rattle.verilog_parse.proofs.module.read_items.Goals as goal

pub items-init : goal.items-init
items-init c = record { lists = Steps.items_none 255 c.args.tokens.now _ (search rules); shorter = omega arith }

pub returns-in-Some-clause-read : goal.returns-in-Some-clause-read
returns-in-Some-clause-read c = Steps.items_end 255 c.args.tokens.now _ _ _ _ c.items.invariant.lists c.in-Some.ensures.found.1

pub returns-in_err-rest-clause-halts : goal.returns-in_err-rest-clause-halts
returns-in_err-rest-clause-halts c = let p = err_from_is_err_and c.from_residual.result c.from_residual.ensures.1 in
    rw (p.1, p.2) (Steps.items_halt 255 c.args.tokens.now _ _ _ c.items.invariant.lists c.in_default.ensures.free c.in_err-rest.ensures.halts)

pub items-preserved : goal.items-preserved
items-preserved c = record {
  lists = Steps.items_more 255 c.args.tokens.now _ _ _ _ c.items.invariant.lists c.in_default.ensures.free c.in_ok-rest.ensures.read;
  shorter = omega (arith, c.in_ok-rest.ensures.shorter, c.items.invariant.shorter);
}
