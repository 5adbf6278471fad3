-- Trees of statements that hold others in boxes.
use Rattle.std.proofs.Common.{◌≡◌, Bool, List, map, Some, None, sym, ap, ◌∙◌}
use Rattle.std.specs.Prelude.{Box}
use Rattle.std.specs.declared.alloc.Global.{Global}
use Rattle.verilog_ast.specs.declared.CaseItem.{CaseItem}
use Rattle.verilog_ast.specs.declared.Expr.{Expr}
use Rattle.verilog_ast.specs.declared.Stmt.{Stmt}
use Rattle.verilog_ast.specs.declared.Stmt.TheOpen.{Stmt-F}
use Rattle.verilog_ast.specs.declared.Stmt.TheFolds.{fold-roll-Stmt}
use Rattle.verilog_ast.specs.declared.Stmt.TheVariants.{If, Case, rolls-If, rolls-Case}
use Rattle.verilog_reading.specs.ExprTree.{tree_of}
use Rattle.verilog_reading.specs.StmtTree.{StmtTree, when, either, switch_else, subject_of, ArmTree, arms_of, stmt_tree_of, stmt_tree_step, arm_tree_step}
use Rattle.verilog_stmts.specs.Forms.{arm_tree_of}

pub when_tree : (c : Expr) (y : Box Stmt Global) (s : Stmt) → y.value ≡ s → stmt_tree_of (If c y None) ≡ when (tree_of c) (stmt_tree_of s)
when_tree c y s e = ap stmt_tree_of (sym (rolls-If c y None)) ∙ fold-roll-Stmt StmtTree ArmTree stmt_tree_step arm_tree_step (Stmt-F.If c y None) ∙ ap (λ z. when (tree_of c) (stmt_tree_of z)) e

pub either_tree : (c : Expr) (y o : Box Stmt Global) (s t : Stmt) → y.value ≡ s → o.value ≡ t → stmt_tree_of (If c y (Some o)) ≡ either (tree_of c) (stmt_tree_of s) (stmt_tree_of t)
either_tree c y o s t e f = ap stmt_tree_of (sym (rolls-If c y (Some o))) ∙ fold-roll-Stmt StmtTree ArmTree stmt_tree_step arm_tree_step (Stmt-F.If c y (Some o))
    ∙ ap (λ z. either (tree_of c) (stmt_tree_of z) (stmt_tree_of o.value)) e ∙ ap (λ z. either (tree_of c) (stmt_tree_of s) (stmt_tree_of z)) f

pub switch_else_tree : (masks : Bool) (c : Expr) (items : List CaseItem) (o : Box Stmt Global) (t : Stmt) → o.value ≡ t
    → stmt_tree_of (Case masks c items (Some o)) ≡ switch_else (subject_of masks (tree_of c)) (arms_of (map arm_tree_of items)) (stmt_tree_of t)
switch_else_tree masks c items o t f = ap stmt_tree_of (sym (rolls-Case masks c items (Some o))) ∙ fold-roll-Stmt StmtTree ArmTree stmt_tree_step arm_tree_step (Stmt-F.Case masks c items (Some o))
    ∙ ap (λ z. switch_else (subject_of masks (tree_of c)) (arms_of (map arm_tree_of items)) (stmt_tree_of z)) f
