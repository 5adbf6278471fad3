-- What each form of a statement is, one level down.
use Rattle.std.proofs.Common.{◌≡◌, Bool, ◌&&◌, List, map, Option, Some, None, Box, Global, refl, sym, ap, ◌∙◌}
use Rattle.std.specs.List.{list_all}
use Rattle.verilog_ast.specs.declared.Expr.{Expr}
use Rattle.verilog_ast.specs.declared.Target.{Target}
use Rattle.verilog_ast.specs.declared.Delay.{Delay}
use Rattle.verilog_ast.specs.declared.Stmt.{Stmt}
use Rattle.verilog_ast.specs.declared.CaseItem.{CaseItem}
use Rattle.verilog_ast.specs.declared.Stmt.TheOpen.{Stmt-F, CaseItem-F}
use Rattle.verilog_ast.specs.declared.Stmt.TheFolds.{fold-roll-Stmt, fold-roll-CaseItem}
use Rattle.verilog_ast.specs.declared.Stmt.TheVariants as s
use Rattle.verilog_reading.specs.ExprTree.{tree_of, target_tree_of}
use Rattle.verilog_reading.specs.StmtTree.{StmtTree, null, set, when, either, switch, switch_else, subject_of, block, ArmTree, stmt_trees_of, arms_of, label_tree_of, stmt_tree_step, arm_tree_step, stmt_tree_of}
use Rattle.flat_meaning.specs.Flat as f
use Rattle.flat_form.specs.declared.flat.FExpr.{FExpr}
use Rattle.flat_form.specs.declared.flat.FStmt.{FStmt}
use Rattle.flat_form.specs.declared.flat.FCaseItem.{FCaseItem}
use Rattle.flat_form.specs.declared.flat.FStmt.TheOpen.{FCaseItem-F}
use Rattle.flat_form.specs.declared.flat.FStmt.TheFolds.{fold-roll-FCaseItem}
use Rattle.flat_form.specs.View as v
use Rattle.flat_form.specs.View.{expr_of, exprs_of, stmt_of, Arm, arm_of}
use Rattle.flat_unfolding.specs.Widths.{keeps_sizes, stmt_keeps_sizes, stmt_step, arm_step}
use Rattle.flat_statements.specs.Statements.{arm_tree_of, arm_keeps_sizes}
use Rattle.flat_statements.proofs.Done.{IsItem}

pub tree-null : stmt_tree_of s.Null ≡ null
tree-null = ap stmt_tree_of (sym s.rolls-Null) ∙ fold-roll-Stmt StmtTree ArmTree stmt_tree_step arm_tree_step Stmt-F.Null

pub tree-set : (b : Bool) (d : Option Delay) (t : Target) (e : Expr) → stmt_tree_of (s.Set b d t e) ≡ set b d (target_tree_of t) (tree_of e)
tree-set b d t e = ap stmt_tree_of (sym (s.rolls-Set b d t e)) ∙ fold-roll-Stmt StmtTree ArmTree stmt_tree_step arm_tree_step (Stmt-F.Set b d t e)

pub tree-when : (c : Expr) (x : Box Stmt Global) → stmt_tree_of (s.If c x None) ≡ when (tree_of c) (stmt_tree_of x.value)
tree-when c x = ap stmt_tree_of (sym (s.rolls-If c x None)) ∙ fold-roll-Stmt StmtTree ArmTree stmt_tree_step arm_tree_step (Stmt-F.If c x None)

pub tree-either : (c : Expr) (x z : Box Stmt Global) → stmt_tree_of (s.If c x (Some z)) ≡ either (tree_of c) (stmt_tree_of x.value) (stmt_tree_of z.value)
tree-either c x z = ap stmt_tree_of (sym (s.rolls-If c x (Some z))) ∙ fold-roll-Stmt StmtTree ArmTree stmt_tree_step arm_tree_step (Stmt-F.If c x (Some z))

pub tree-switch : (m : Bool) (c : Expr) (is : List CaseItem) → stmt_tree_of (s.Case m c is None) ≡ switch (subject_of m (tree_of c)) (arms_of (map arm_tree_of is))
tree-switch m c is = ap stmt_tree_of (sym (s.rolls-Case m c is None)) ∙ fold-roll-Stmt StmtTree ArmTree stmt_tree_step arm_tree_step (Stmt-F.Case m c is None)

pub tree-switch_else : (m : Bool) (c : Expr) (is : List CaseItem) (z : Box Stmt Global) → stmt_tree_of (s.Case m c is (Some z)) ≡ switch_else (subject_of m (tree_of c)) (arms_of (map arm_tree_of is)) (stmt_tree_of z.value)
tree-switch_else m c is z = ap stmt_tree_of (sym (s.rolls-Case m c is (Some z))) ∙ fold-roll-Stmt StmtTree ArmTree stmt_tree_step arm_tree_step (Stmt-F.Case m c is (Some z))

pub tree-block : (xs : List Stmt) → stmt_tree_of (s.Block xs) ≡ block (stmt_trees_of (map stmt_tree_of xs))
tree-block xs = ap stmt_tree_of (sym (s.rolls-Block xs)) ∙ fold-roll-Stmt StmtTree ArmTree stmt_tree_step arm_tree_step (Stmt-F.Block xs)

pub arm-tree : (i : CaseItem) → arm_tree_of i ≡ record { labels = map label_tree_of i.labels; body = stmt_tree_of i.body }
arm-tree i = let x : CaseItem-F Stmt CaseItem = record { labels = i.labels; body = i.body } in fold-roll-CaseItem StmtTree ArmTree stmt_tree_step arm_tree_step x

arm-is : (i : FCaseItem) → arm_of i ≡ record { labels = exprs_of (map expr_of i.labels); body = stmt_of i.body }
arm-is i = let x : FCaseItem-F FStmt FCaseItem = record { labels = i.labels; body = i.body } in fold-roll-FCaseItem f.Stmt Arm v.stmt_step v.arm_step x

arm-sizes : (i : FCaseItem) → arm_keeps_sizes i ≡ (list_all keeps_sizes i.labels && stmt_keeps_sizes i.body)
arm-sizes i = let x : FCaseItem-F FStmt FCaseItem = record { labels = i.labels; body = i.body } in fold-roll-FCaseItem Bool Bool stmt_step arm_step x

pub item-is : (ls : List FExpr) (x : FStmt) → IsItem (record { labels = ls; body = x }) ls x
item-is ls x = let i : FCaseItem = record { labels = ls; body = x } in record { labels = refl; arm = arm-is i; sizes = arm-sizes i }
