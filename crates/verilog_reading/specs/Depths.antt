-- The depth of a tree is that of the Rust value that it stands for.
use Rattle.std.specs.Prelude.{ℕ, suc, ◌≡◌, ◌≤◌, ◌↔◌}
use Rattle.verilog_ast.specs.declared.Expr.{Expr}
use Rattle.verilog_ast.specs.declared.Target.{Target}
use Rattle.verilog_ast.specs.declared.Stmt.{Stmt}
use Rattle.verilog_ast.specs.declared.Source.{Source}
use Rattle.verilog_ast.specs.Depth.{expr_depth, target_depth, stmt_depth, source_depth}
use Rattle.verilog_reading.specs.ExprTree.{tree_of, height, target_tree_of, target_height}
use Rattle.verilog_reading.specs.StmtTree.{stmt_tree_of, stmt_height}
use Rattle.verilog_reading.specs.SourceTree.{source_of, source_height}

-- the depth counts the first level, and a height the levels below it
abbrev pub ExprDepth : Type 0
ExprDepth = (e : Expr) → expr_depth e ≡ suc (height (tree_of e))

abbrev pub TargetDepth : Type 0
TargetDepth = (t : Target) → target_depth t ≡ suc (target_height (target_tree_of t))

abbrev pub StmtDepth : Type 0
StmtDepth = (s : Stmt) → stmt_depth s ≡ suc (stmt_height (stmt_tree_of s))

-- a source may have no level at all
abbrev pub SourceDepth : Type 0
SourceDepth = (s : Source) (k : ℕ) → (source_depth s ≤ suc k) ↔ (source_height (source_of s) ≤ k)
