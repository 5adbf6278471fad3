use Rattle.std.proofs.Common.{arith, rules}
use Rattle.std.proofs.lemmas.Result.{err_from_is_err_and}
use Rattle.verilog_exprs.proofs.Steps.{halts_for_memory}
use Rattle.verilog_parse.proofs.ModuleSteps as Steps
use Rattle.verilog_parse.proofs.module.read_source.Goals as goal

pub modules-init : goal.modules-init
modules-init c = record { lists = Steps.modules_none 255 c.args.tokens.now _ (search rules); shorter = omega arith }

pub returns-then-is_at_end-clause-read : goal.returns-then-is_at_end-clause-read
returns-then-is_at_end-clause-read c = Steps.source_done 255 c.args.tokens.now _ _ _ c.modules.invariant.lists (c.is_at_end.ensures.ended c.if-is_at_end.true) c.make_source.ensures

pub returns-in_err-next-clause-halts : goal.returns-in_err-next-clause-halts
returns-in_err-next-clause-halts c = let p = err_from_is_err_and c.from_residual.result c.from_residual.ensures.1 in
    rw (p.1, p.2) (Steps.source_halts 255 c.args.tokens.now _ _ _ c.modules.invariant.lists (c.is_at_end.ensures.free c.if-is_at_end.false) c.in_err-next.ensures.halts)

pub returns-in_err-push-clause-halts : goal.returns-in_err-push-clause-halts
returns-in_err-push-clause-halts c = let p = err_from_is_err_and c.from_residual-in_err-push.result c.from_residual-in_err-push.ensures.1 in
    rw p.1 (halts_for_memory _ _ p.2)

pub modules-preserved : goal.modules-preserved
modules-preserved c = record {
  lists = Steps.modules_more 255 c.args.tokens.now _ _ _ _ _ c.modules.invariant.lists (c.is_at_end.ensures.free c.if-is_at_end.false) c.in_ok-next.ensures.read c.in_ok-push.ensures.pushed;
  shorter = omega (arith, c.in_ok-next.ensures.shorter, c.modules.invariant.shorter);
}
