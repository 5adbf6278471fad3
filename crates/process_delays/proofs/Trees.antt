-- What each form of a statement is, one level down.
use Rattle.std.proofs.Common.{◌≡◌, Bool, List, map, Some, None, Box, Global, sym, ap, ◌∙◌}
use Rattle.verilog_ast.specs.declared.Expr.{Expr}
use Rattle.verilog_ast.specs.declared.Stmt.{Stmt}
use Rattle.verilog_ast.specs.declared.CaseItem.{CaseItem}
use Rattle.verilog_ast.specs.declared.Stmt.TheOpen.{Stmt-F, CaseItem-F}
use Rattle.verilog_ast.specs.declared.Stmt.TheFolds.{fold-roll-Stmt, fold-roll-CaseItem}
use Rattle.verilog_ast.specs.declared.Stmt.TheVariants as s
use Rattle.verilog_reading.specs.ExprTree.{tree_of}
use Rattle.verilog_reading.specs.StmtTree.{StmtTree, switch, switch_else, subject_of, ArmTree, arms_of, stmt_tree_step, arm_tree_step, stmt_tree_of}
use Rattle.process_delays.specs.Walks.{arm_tree_of}

pub tree-switch : (m : Bool) (c : Expr) (is : List CaseItem) → stmt_tree_of (s.Case m c is None) ≡ switch (subject_of m (tree_of c)) (arms_of (map arm_tree_of is))
tree-switch m c is = ap stmt_tree_of (sym (s.rolls-Case m c is None)) ∙ fold-roll-Stmt StmtTree ArmTree stmt_tree_step arm_tree_step (Stmt-F.Case m c is None)

pub tree-switch_else : (m : Bool) (c : Expr) (is : List CaseItem) (z : Box Stmt Global) → stmt_tree_of (s.Case m c is (Some z)) ≡ switch_else (subject_of m (tree_of c)) (arms_of (map arm_tree_of is)) (stmt_tree_of z.value)
tree-switch_else m c is z = ap stmt_tree_of (sym (s.rolls-Case m c is (Some z))) ∙ fold-roll-Stmt StmtTree ArmTree stmt_tree_step arm_tree_step (Stmt-F.Case m c is (Some z))

pub arm-body : (i : CaseItem) → (arm_tree_of i).body ≡ stmt_tree_of i.body
arm-body i = let x : CaseItem-F Stmt CaseItem = record { labels = i.labels; body = i.body } in ap (λ (a : ArmTree). a.body) (fold-roll-CaseItem StmtTree ArmTree stmt_tree_step arm_tree_step x)
