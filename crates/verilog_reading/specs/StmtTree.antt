-- Statements without their pointers, and how deep they are.
use Rattle.std.specs.Prelude.{ℕ, suc, max, Bool, true, false, List, [], ◌∷◌, map, Option, Some, None, Box}
use Rattle.std.specs.declared.alloc.Global.{Global}
use Rattle.verilog_ast.specs.declared.Delay.{Delay}
use Rattle.verilog_ast.specs.declared.Label.{Label}
use Rattle.verilog_ast.specs.declared.Label.TheVariants as label
use Rattle.verilog_ast.specs.declared.Stmt.{Stmt}
use Rattle.verilog_ast.specs.declared.Stmt.TheOpen.{Stmt-F, CaseItem-F}
use Rattle.verilog_ast.specs.declared.Stmt.TheFolds.{fold-Stmt}
use Rattle.verilog_reading.specs.ExprTree.{ExprTree, tree_of, height, TargetTree, target_tree_of, target_height}

-- what a `case` compares, and whether masks may be among its labels
pub record Subject : Type 0 where
  pub masks : Bool
  pub value : ExprTree

pub data LabelTree : Type 0 where
  by_value : ExprTree → LabelTree
  by_mask : ℕ → ℕ → ℕ → LabelTree

mutual
  pub data StmtTree : Type 0 where
    null : StmtTree
    set : Bool → Option Delay → TargetTree → ExprTree → StmtTree
    when : ExprTree → StmtTree → StmtTree
    either : ExprTree → StmtTree → StmtTree → StmtTree
    switch : Subject → ArmTrees → StmtTree
    switch_else : Subject → ArmTrees → StmtTree → StmtTree
    block : StmtTrees → StmtTree

  pub data StmtTrees : Type 0 where
    no_rows : StmtTrees
    and_rows : StmtTree → StmtTrees → StmtTrees

  pub data ArmTrees : Type 0 where
    no_arms : ArmTrees
    and_arms : List LabelTree → StmtTree → ArmTrees → ArmTrees

abbrev pub stmt_trees_of : List StmtTree → StmtTrees
stmt_trees_of [] = no_rows
stmt_trees_of (s ∷ ss) = and_rows s (stmt_trees_of ss)

-- an item of a `case` that has labels
pub record ArmTree : Type 0 where
  pub labels : List LabelTree
  pub body : StmtTree

abbrev pub arms_before : List ArmTree → ArmTrees → ArmTrees
arms_before [] arms = arms
arms_before (a ∷ bs) arms = and_arms a.labels a.body (arms_before bs arms)

abbrev pub arms_of : List ArmTree → ArmTrees
arms_of rows = arms_before rows no_arms

-- an `if` with an `else` or with none
abbrev pub branch : ExprTree → StmtTree → Option StmtTree → StmtTree
branch c s None = when c s
branch c s (Some z) = either c s z

-- a `case` with a `default` or with none
abbrev pub choose : Subject → ArmTrees → Option StmtTree → StmtTree
choose c arms None = switch c arms
choose c arms (Some d) = switch_else c arms d

abbrev pub subject_of : Bool → ExprTree → Subject
subject_of masks c = record { masks = masks; value = c }

abbrev pub label_tree_of : Label → LabelTree
label_tree_of (label.Value e) = by_value (tree_of e)
label_tree_of (label.Mask value opened width) = by_mask value opened width

abbrev pub unboxed : Option (Box StmtTree Global) → Option StmtTree
unboxed None = None
unboxed (Some b) = Some b.value

abbrev pub stmt_tree_step : Stmt-F StmtTree ArmTree → StmtTree
stmt_tree_step Stmt-F.Null = null
stmt_tree_step (Stmt-F.Set blocking delay target value) = set blocking delay (target_tree_of target) (tree_of value)
stmt_tree_step (Stmt-F.If cond chosen other) = branch (tree_of cond) chosen.value (unboxed other)
stmt_tree_step (Stmt-F.Case masks subject items rest) = choose (subject_of masks (tree_of subject)) (arms_of items) (unboxed rest)
stmt_tree_step (Stmt-F.Block parts) = block (stmt_trees_of parts)

abbrev pub arm_tree_step : CaseItem-F StmtTree ArmTree → ArmTree
arm_tree_step i = record { labels = map label_tree_of i.labels; body = i.body }

-- the tree of a statement
abbrev pub stmt_tree_of : Stmt → StmtTree
stmt_tree_of = fold-Stmt StmtTree ArmTree stmt_tree_step arm_tree_step

abbrev pub label_height : LabelTree → ℕ
label_height (by_value e) = height e
label_height (by_mask value opened width) = 0

abbrev pub label_heights : List LabelTree → ℕ
label_heights [] = 0
label_heights (a ∷ bs) = max (label_height a) (label_heights bs)

-- how many levels a statement has below its first: an item of a `case` is none, and an empty block has none
abbrev mutual
  pub stmt_height : StmtTree → ℕ
  stmt_height null = 0
  stmt_height (set blocking delay t e) = suc (max (target_height t) (height e))
  stmt_height (when c s) = suc (max (height c) (stmt_height s))
  stmt_height (either c s z) = suc (max (height c) (max (stmt_height s) (stmt_height z)))
  stmt_height (switch c arms) = suc (max (height c.value) (arm_heights arms))
  stmt_height (switch_else c arms d) = suc (max (height c.value) (max (arm_heights arms) (stmt_height d)))
  stmt_height (block rows) = row_heights rows

  pub row_heights : StmtTrees → ℕ
  row_heights no_rows = 0
  row_heights (and_rows s ss) = max (suc (stmt_height s)) (row_heights ss)

  pub arm_heights : ArmTrees → ℕ
  arm_heights no_arms = 0
  arm_heights (and_arms labels s arms) = max (max (label_heights labels) (stmt_height s)) (arm_heights arms)

-- an `else` behind it would belong to an `if` in it
abbrev pub takes_else : StmtTree → Bool
takes_else (when c s) = true
takes_else (either c s z) = takes_else z
takes_else s = false
