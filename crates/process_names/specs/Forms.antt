-- The assignments of a form, and the trees of the items of a `case`.
use Rattle.std.specs.Prelude.{Bool, true, not, Option, is_some}
use Rattle.verilog_ast.specs.declared.CaseItem.{CaseItem}
use Rattle.verilog_ast.specs.declared.Delay.{Delay}
use Rattle.verilog_ast.specs.declared.Stmt.TheFolds.{fold-CaseItem}
use Rattle.verilog_reading.specs.StmtTree.{StmtTree, ArmTree, stmt_tree_step, arm_tree_step}
use Rattle.process_names.specs.declared.mentions.Form.{Form}
use Rattle.process_names.specs.declared.mentions.Form.TheVariants as form

-- the tree of an item of a `case`
abbrev pub arm_tree_of : CaseItem → ArmTree
arm_tree_of = fold-CaseItem StmtTree ArmTree stmt_tree_step arm_tree_step

abbrev pub test_of : Form → (blocking : Bool) → Option Delay → Bool
test_of form.Any = λ b d. true
test_of form.Blocking = λ b d. b
test_of form.Later = λ b d. not b
test_of form.Delayed = λ b d. is_some d
