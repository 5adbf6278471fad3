-- Expressions and targets without their pointers, and how deep they are.
use Rattle.std.specs.Prelude.{ℕ, suc, max, List, [], ◌∷◌}
use Rattle.cdc_base.specs.declared.size.NumberSize.{NumberSize}
use Rattle.verilog_ast.specs.declared.UnaryOp.{UnaryOp}
use Rattle.verilog_ast.specs.declared.BinaryOp.{BinaryOp}
use Rattle.verilog_ast.specs.declared.PartKind.{PartKind}
use Rattle.verilog_ast.specs.declared.Expr.{Expr}
use Rattle.verilog_ast.specs.declared.Expr.TheOpen.{Expr-F}
use Rattle.verilog_ast.specs.declared.Expr.TheFolds.{fold-Expr}
use Rattle.verilog_ast.specs.declared.Target.{Target}
use Rattle.verilog_ast.specs.declared.Target.TheOpen.{Target-F}
use Rattle.verilog_ast.specs.declared.Target.TheFolds.{fold-Target}

mutual
  pub data ExprTree : Type 0 where
    number : ℕ → ℕ → NumberSize → ExprTree
    name : List ℕ → ExprTree
    index : List ℕ → ExprTree → ExprTree
    part : List ℕ → PartKind → ExprTree → ExprTree → ExprTree
    unary : UnaryOp → ExprTree → ExprTree
    binary : BinaryOp → ExprTree → ExprTree → ExprTree
    choice : ExprTree → ExprTree → ExprTree → ExprTree
    join : ExprTrees → ExprTree
    repeat : ExprTree → ExprTrees → ExprTree
    paren : ExprTree → ExprTree

  pub data ExprTrees : Type 0 where
    no_trees : ExprTrees
    and_trees : ExprTree → ExprTrees → ExprTrees

abbrev pub trees_of : List ExprTree → ExprTrees
trees_of [] = no_trees
trees_of (a ∷ bs) = and_trees a (trees_of bs)

abbrev pub expr_tree_step : Expr-F ExprTree → ExprTree
expr_tree_step (Expr-F.Number value width spelt) = number value width spelt
expr_tree_step (Expr-F.Ident n) = name n
expr_tree_step (Expr-F.At n i) = index n i.value
expr_tree_step (Expr-F.Part n kind left right) = part n kind left.value right.value
expr_tree_step (Expr-F.Unary op a) = unary op a.value
expr_tree_step (Expr-F.Binary op a b) = binary op a.value b.value
expr_tree_step (Expr-F.Choose c a b) = choice c.value a.value b.value
expr_tree_step (Expr-F.Join parts) = join (trees_of parts)
expr_tree_step (Expr-F.Repeat count parts) = repeat count.value (trees_of parts)
expr_tree_step (Expr-F.Paren inner) = paren inner.value

-- the tree of an expression
abbrev pub tree_of : Expr → ExprTree
tree_of = fold-Expr ExprTree expr_tree_step

-- how many levels an expression has below its first
abbrev mutual
  pub height : ExprTree → ℕ
  height (number value width spelt) = 0
  height (name n) = 0
  height (index n i) = suc (height i)
  height (part n kind left right) = suc (max (height left) (height right))
  height (unary op a) = suc (height a)
  height (binary op a b) = suc (max (height a) (height b))
  height (choice c a b) = suc (max (height c) (max (height a) (height b)))
  height (join parts) = heights parts
  height (repeat count parts) = max (suc (height count)) (heights parts)
  height (paren inner) = suc (height inner)

  pub heights : ExprTrees → ℕ
  heights no_trees = 0
  heights (and_trees a bs) = max (suc (height a)) (heights bs)

-- a leaf has depth 1, any other expression one more than its deepest part
abbrev pub depth : ExprTree → ℕ
depth a = suc (height a)

mutual
  pub data TargetTree : Type 0 where
    whole : List ℕ → TargetTree
    index_of : List ℕ → ExprTree → TargetTree
    part_of : List ℕ → PartKind → ExprTree → ExprTree → TargetTree
    join_of : TargetTrees → TargetTree

  pub data TargetTrees : Type 0 where
    no_parts : TargetTrees
    and_parts : TargetTree → TargetTrees → TargetTrees

abbrev pub target_trees_of : List TargetTree → TargetTrees
target_trees_of [] = no_parts
target_trees_of (a ∷ bs) = and_parts a (target_trees_of bs)

abbrev pub target_tree_step : Target-F TargetTree → TargetTree
target_tree_step (Target-F.Whole n) = whole n
target_tree_step (Target-F.At n i) = index_of n (tree_of i)
target_tree_step (Target-F.Part n kind left right) = part_of n kind (tree_of left) (tree_of right)
target_tree_step (Target-F.Join parts) = join_of (target_trees_of parts)

-- the tree of a target
abbrev pub target_tree_of : Target → TargetTree
target_tree_of = fold-Target TargetTree target_tree_step

-- how many levels a target has below its first
abbrev mutual
  pub target_height : TargetTree → ℕ
  target_height (whole n) = 0
  target_height (index_of n i) = suc (height i)
  target_height (part_of n kind left right) = suc (max (height left) (height right))
  target_height (join_of parts) = target_heights parts

  pub target_heights : TargetTrees → ℕ
  target_heights no_parts = 0
  target_heights (and_parts a bs) = max (suc (target_height a)) (target_heights bs)
