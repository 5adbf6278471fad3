use Rattle.std.proofs.Common.{sym, ap, ◌∙◌}
use Rattle.verilog_reading.specs.ExprTree.{tree_of}
use Rattle.flat_form.specs.View.{target_of}
use Rattle.flat_form.proofs.Folds.{target_of-Whole}
use Rattle.flat_unfolding.specs.Expressions.{read}
use Rattle.flat_process.proofs.Started.{reg-there, at-register}
use Rattle.flat_process.proofs.start.start_at.Goals as goal

pub returns-then-is_register : goal.returns-then-is_register
returns-then-is_register c = λ l h is formed.
    let s = c.in-Whole.sig in
    let r = sym (c.is_register.ensures l h) ∙ c.if-is_register.true in
    let g = c.in_ok-start.ensures l h is formed (reg-there l s r) in
    at-register l c.args.first.now (target_of c.args.target.now) s (read l (tree_of c.args.value.now)) c.in_ok-start.start c.args.faults.now c.start_value.new.faults (ap target_of c.in-Whole.is ∙ target_of-Whole s) r g.0 g.1
