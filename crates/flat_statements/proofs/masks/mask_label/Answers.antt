use Rattle.std.proofs.Common.{◌≡◌, refl, sym, subst}
use Rattle.verilog_ast.specs.declared.Label.{Label}
use Rattle.verilog_reading.specs.ExprTree.{tree_of}
use Rattle.verilog_reading.specs.StmtTree.{label_tree_of}
use Rattle.flat_form.specs.declared.flat.FExpr.TheVariants as f
use Rattle.flat_unfolding.specs.Formed.{IsLabelFormed}
use Rattle.flat_unfolding.specs.Statements.{mask_of}
use Rattle.flat_names.specs.Noting.{all_noted}
use Rattle.flat_statements.specs.Masks.{IsMask}
use Rattle.flat_statements.proofs.Items.{value-mask, number-mask}
use Rattle.flat_statements.proofs.masks.mask_label.Goals as goal

pub returns-in_ok-value-in-Value : goal.returns-in_ok-value-in-Value
returns-in_ok-value-in-Value c = λ l k h is formed.
    let i = c.in-Value in
    let v = c.in_ok-value-in-Value.value in
    let r = c.in_ok-value-in-Value.ensures l h is (subst (λ (z : Label). IsLabelFormed (label_tree_of z)) i.is formed) in
    subst (λ (z : Label). IsMask (mask_of l k (label_tree_of z)) (record { expr = v.expr; opened = 0 }) × (c.resolve_constant.new.faults ≡ all_noted c.args.faults.now (mask_of l k (label_tree_of z)).term.broken)) (sym i.is)
    (value-mask l k (tree_of i.value) v r.0, r.1)

pub returns-in-Mask : goal.returns-in-Mask
returns-in-Mask c = λ l k h is formed.
    let i = c.in-Mask in
    let o = i.«open» in
    let m = subst (λ (z : Label). IsLabelFormed (label_tree_of z)) i.is formed in
    subst (λ (z : Label). IsMask (mask_of l k (label_tree_of z)) (record { expr = f.Number i.value i.width; opened = o }) × (c.args.faults.now ≡ all_noted c.args.faults.now (mask_of l k (label_tree_of z)).term.broken)) (sym i.is)
    (number-mask l k i.value o i.width m, refl)
