-- Walks over the statements of a process: whether a nonblocking assignment has a delay, and what stands behind an `else` or a `default`.
use Rattle.std.specs.Prelude.{Bool, false, not, ◌&&◌, ◌||◌, Option, Some, None, is_some, Box}
use Rattle.std.specs.declared.alloc.Global.{Global}
use Rattle.verilog_ast.specs.declared.Stmt.{Stmt}
use Rattle.verilog_ast.specs.declared.CaseItem.{CaseItem}
use Rattle.verilog_ast.specs.declared.Stmt.TheFolds.{fold-CaseItem}
use Rattle.verilog_reading.specs.StmtTree.{StmtTree, null, set, when, either, switch, switch_else, block, StmtTrees, no_rows, and_rows, ArmTree, ArmTrees, no_arms, and_arms, stmt_tree_step, arm_tree_step, stmt_tree_of}
use Rattle.flat_unfolding.specs.Outcome.{Text}
use Rattle.flat_unfolding.specs.Delays.{Delays, Walked, walked}

-- the tree of an item of a `case`
abbrev pub arm_tree_of : CaseItem → ArmTree
arm_tree_of = fold-CaseItem StmtTree ArmTree stmt_tree_step arm_tree_step

abbrev pub other_of : Option (Box Stmt Global) → Option StmtTree
other_of None = None
other_of (Some b) = Some (stmt_tree_of b.value)

abbrev mutual
  pub is_delayed : StmtTree → Bool
  is_delayed null = false
  is_delayed (set blocking delay t e) = not blocking && is_some delay
  is_delayed (when c s) = is_delayed s
  is_delayed (either c s z) = is_delayed s || is_delayed z
  is_delayed (switch c rows) = are_arms_delayed rows
  is_delayed (switch_else c rows d) = are_arms_delayed rows || is_delayed d
  is_delayed (block rows) = are_delayed rows

  pub are_delayed : StmtTrees → Bool
  are_delayed no_rows = false
  are_delayed (and_rows s rest) = is_delayed s || are_delayed rest

  pub are_arms_delayed : ArmTrees → Bool
  are_arms_delayed no_arms = false
  are_arms_delayed (and_arms labels s rest) = is_delayed s || are_arms_delayed rest

abbrev pub is_other_delayed : Option StmtTree → Bool
is_other_delayed None = false
is_other_delayed (Some s) = is_delayed s

-- on the path of none nothing is assigned
abbrev pub walked_other : (Text → Delays) → Option StmtTree → Walked
walked_other before None = record { after = before; clash = None }
walked_other before (Some s) = walked before s
