-- The trees of branches and blocks as the code meets them, with their parts behind boxes and slices.
use Rattle.std.proofs.Common.{◌≡◌, ◌≤◌, List, [], ◌∷◌, length, map, Some, None, Box, Global, refl, sym, ap, ap₂, ◌∙◌, arith}
use Rattle.verilog_ast.specs.declared.Expr.{Expr}
use Rattle.verilog_ast.specs.declared.Stmt.{Stmt}
use Rattle.verilog_ast.specs.declared.Stmt.TheVariants as s
use Rattle.verilog_reading.specs.ExprTree.{tree_of}
use Rattle.verilog_reading.specs.StmtTree.{when, either, block, stmt_trees_of, stmt_tree_of}
use Rattle.flat_unfolding.specs.Resets.{peeled}
use Rattle.flat_statements.proofs.Trees as t

pub tree-when : (x : Stmt) (c : Expr) (y : Box Stmt Global) (a : Stmt) → x ≡ s.If c y None → a ≡ y.value → stmt_tree_of x ≡ when (tree_of c) (stmt_tree_of a)
tree-when x c y a h i = ap stmt_tree_of h ∙ t.tree-when c y ∙ ap (λ k. when (tree_of c) (stmt_tree_of k)) (sym i)

pub tree-either : (x : Stmt) (c : Expr) (y z : Box Stmt Global) (a b : Stmt) → x ≡ s.If c y (Some z) → a ≡ y.value → b ≡ z.value → stmt_tree_of x ≡ either (tree_of c) (stmt_tree_of a) (stmt_tree_of b)
tree-either x c y z a b h i j = ap stmt_tree_of h ∙ t.tree-either c y z ∙ ap₂ (λ k m. either (tree_of c) (stmt_tree_of k) (stmt_tree_of m)) (sym i) (sym j)

pub tree-block : (x : Stmt) (xs ys : List Stmt) → x ≡ s.Block xs → ys ≡ xs → stmt_tree_of x ≡ block (stmt_trees_of (map stmt_tree_of ys))
tree-block x xs ys h i = ap stmt_tree_of h ∙ t.tree-block xs ∙ ap (λ zs. block (stmt_trees_of (map stmt_tree_of zs))) (sym i)

-- a block of several statements stays
pub peeled-several : (xs : List Stmt) → 2 ≤ length xs → peeled (block (stmt_trees_of (map stmt_tree_of xs))) ≡ block (stmt_trees_of (map stmt_tree_of xs))
peeled-several [] h = absurd (omega arith)
peeled-several (x ∷ []) h = absurd (omega arith)
peeled-several (x ∷ y ∷ xs) h = refl
