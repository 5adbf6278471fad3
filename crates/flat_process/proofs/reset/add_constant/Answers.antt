use Rattle.std.proofs.Common.{◌++◌, length, sym, ap, subst, Vec, Global}
use Rattle.verilog_reading.specs.ExprTree.{tree_of, target_tree_of}
use Rattle.flat_unfolding.specs.Expressions.{read}
use Rattle.flat_unfolding.specs.Targets.{of_registers, aim}
use Rattle.flat_process.specs.declared.reset.Given.{Given}
use Rattle.flat_process.specs.Resets.{AreGiven, given_by}
use Rattle.flat_process.proofs.PlainAims.{plain-aim}
use Rattle.flat_process.proofs.ResetRows.{adds-constant, adds-nothing}
use Rattle.flat_process.proofs.reset.add_constant.Goals as goal
use Rattle.flat_process.proofs.reset.add_constant.Goals.{then-value+in_ok-give_constant, else-value}

pub returns : goal.returns
returns c = λ l us shows fit target value fixed given.
    let t = target_tree_of c.args.target.now in
    let e = tree_of c.args.value.now in
    let a = c.in_ok-fixed.ensures l shows fit target in
    let v = c.in_ok-value.ensures l shows fit value in
    let b = c.in_ok-value.value.is_constant in
    elim c.if-value.branch [
      | then-value+in_ok-give_constant w ↦ adds-constant l t e fixed us c.if-value.given.items b v.0.constant w.if-value.true (subst (AreGiven (length l.entries) (us ++ given_by l (read l e) (aim l of_registers t))) (sym (ap (λ (z : Vec Given Global). z.items) w.given-is)) (w.in_ok-give_constant.ensures l us (aim l of_registers t) (read l e) shows a.0 v.0 (plain-aim l fit t fixed) given))
      | else-value w ↦ adds-nothing l t e fixed us c.if-value.given.items b v.0.constant w.if-value.false
    ]
