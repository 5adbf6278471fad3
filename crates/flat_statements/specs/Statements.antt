-- Statements with their names resolved, side by side with what the definition reads them as.
use Rattle.std.specs.Prelude.{◌≡◌, ℕ, Bool, true, false, ◌||◌, List, [], ◌∷◌, map}
use Rattle.verilog_ast.specs.declared.CaseItem.{CaseItem}
use Rattle.verilog_ast.specs.declared.Stmt.TheFolds.{fold-CaseItem}
use Rattle.verilog_reading.specs.StmtTree.{StmtTree, ArmTree, stmt_tree_step, arm_tree_step}
use Rattle.flat_meaning.specs.Flat.{Exprs, Stmt, Null, Set, If, Case, Block, Items, no_items, default_item, item, Stmts, no_stmts, stmt, case_size}
use Rattle.flat_meaning.specs.Full.{is_full}
use Rattle.flat_meaning.specs.Assigned as m
use Rattle.flat_meaning.specs.Assigned.{surely_case, surely_all, may_assign, may_assign_in, any_may_assign}
use Rattle.flat_meaning.specs.Deps.{Bits}
use Rattle.flat_form.specs.View.{stmt_of, stmts_of, arm_of, items_of}
use Rattle.flat_form.specs.Sizes.{are_labels_sized}
use Rattle.flat_form.specs.declared.flat.FStmt.{FStmt}
use Rattle.flat_form.specs.declared.flat.FCaseItem.{FCaseItem}
use Rattle.flat_unfolding.specs.Statements.{Kind, of_wires, clocked, neither, Done, Rows, Arms, with_last}
use Rattle.flat_unfolding.specs.Reads as q
use Rattle.flat_unfolding.specs.Reads.{early_in, early_all}
use Rattle.flat_unfolding.specs.Widths.{all_true, stmt_keeps_sizes, stmt_step, arm_step}
use Rattle.flat_form.specs.declared.flat.FStmt.TheFolds.{fold-FCaseItem}
use Rattle.flat_statements.specs.declared.statement.Mode.{Mode}
use Rattle.flat_statements.specs.declared.statement.Mode.TheVariants as k

abbrev pub kind_of : Mode → Kind
kind_of k.Wires = of_wires
kind_of k.Clocked = clocked
kind_of k.Neither = neither

-- the tree of an item of a `case`
abbrev pub arm_tree_of : CaseItem → ArmTree
arm_tree_of = fold-CaseItem StmtTree ArmTree stmt_tree_step arm_tree_step

abbrev pub arm_keeps_sizes : FCaseItem → Bool
arm_keeps_sizes = fold-FCaseItem Bool Bool stmt_step arm_step

-- a statement of a given form, whose widths are right where the test is true
pub record Builds (r : FStmt) (x : Stmt) (sized : Bool) : Type 0 where
  pub stmt : stmt_of r ≡ x
  pub sizes : stmt_keeps_sizes r ≡ sized

-- ---- what latches depend on: the bits that statements may assign, those that they surely assign, and those that they read before

pub record AreAlike (x y : Stmt) : Type 0 where
  pub may : (wid : ℕ → ℕ) (s i : ℕ) → may_assign wid x s i ≡ may_assign wid y s i
  pub surely : (wid : ℕ → ℕ) (d : Bits) (s i : ℕ) → m.surely wid x d s i ≡ m.surely wid y d s i
  pub early : (wid : ℕ → ℕ) (d : Bits) (s i : ℕ) → q.early wid x d s i ≡ q.early wid y d s i

pub record AreAllAlike (xs ys : Stmts) : Type 0 where
  pub may : (wid : ℕ → ℕ) (s i : ℕ) → any_may_assign wid xs s i ≡ any_may_assign wid ys s i
  pub surely : (wid : ℕ → ℕ) (d : Bits) (s i : ℕ) → surely_all wid xs d s i ≡ surely_all wid ys d s i
  pub early : (wid : ℕ → ℕ) (d : Bits) (s i : ℕ) → early_all wid xs d s i ≡ early_all wid ys d s i

-- items that no default ends; `full` where every value is taken, else a default stands behind them
pub record AreArmsAlike (xs ys : Items) : Type 0 where
  pub may : (wid : ℕ → ℕ) (z : Items) (s i : ℕ) → may_assign_in wid (with_last xs z) s i ≡ may_assign_in wid (with_last ys z) s i
  pub surely : (wid : ℕ → ℕ) (full : Bool) (o d : Bits) (z : Items) (s i : ℕ) → surely_case wid full o (with_last xs z) d s i ≡ surely_case wid full o (with_last ys z) d s i
  pub early : (wid : ℕ → ℕ) (d : Bits) (z : Items) (s i : ℕ) → early_in wid (with_last xs z) d s i ≡ early_in wid (with_last ys z) d s i

-- ---- a `case` without a default takes every value

abbrev pub has_default : Items → Bool
has_default no_items = false
has_default (default_item x) = true
has_default (item ls x is) = has_default is

abbrev mutual
  pub IsFull : Stmt → Type 0
  IsFull Null = Unit {0}
  IsFull (Set b t e) = Unit {0}
  IsFull (If c x y) = IsFull x × IsFull y
  IsFull (Case e is) = ((has_default is || is_full (case_size e is) is) ≡ true) × AreItemsFull is
  IsFull (Block ss) = AreFull ss

  pub AreItemsFull : Items → Type 0
  AreItemsFull no_items = Unit {0}
  AreItemsFull (default_item x) = IsFull x
  AreItemsFull (item ls x is) = IsFull x × AreItemsFull is

  pub AreFull : Stmts → Type 0
  AreFull no_stmts = Unit {0}
  AreFull (stmt x ss) = IsFull x × AreFull ss

-- ---- what was read

pub record IsDone (d : Done) (r : FStmt) : Type 0 where
  pub stmt : d.broken ≡ [] → stmt_of r ≡ d.stmt
  pub sizes : d.broken ≡ [] → stmt_keeps_sizes r ≡ true
  pub alike : AreAlike (stmt_of r) d.stmt
  pub full : IsFull (stmt_of r)

pub record AreDone (d : Rows) (rs : List FStmt) : Type 0 where
  pub stmts : d.broken ≡ [] → stmts_of (map stmt_of rs) ≡ d.stmts
  pub sizes : d.broken ≡ [] → all_true (map stmt_keeps_sizes rs) ≡ true
  pub alike : AreAllAlike (stmts_of (map stmt_of rs)) d.stmts
  pub full : AreFull (stmts_of (map stmt_of rs))

abbrev pub items_in : List FCaseItem → Items
items_in is = items_of (map arm_of is) no_items

-- the labels of items
abbrev pub labels_in : Items → List Exprs
labels_in no_items = []
labels_in (default_item x) = []
labels_in (item ls x rest) = ls ∷ labels_in rest

pub record AreArms (a : Arms) (is : List FCaseItem) (sound constant : Bool) : Type 0 where
  pub sound_is : sound ≡ a.is_sound
  pub constant_is : constant ≡ a.is_constant
  pub items : a.broken ≡ [] → items_in is ≡ a.items
  pub sizes : a.broken ≡ [] → all_true (map arm_keeps_sizes is) ≡ true
  pub labels : a.is_sound ≡ true → labels_in (items_in is) ≡ labels_in a.items
  pub sized : a.is_sound ≡ true → are_labels_sized is ≡ true
  pub alike : AreArmsAlike (items_in is) a.items
  pub full : AreItemsFull (items_in is)
