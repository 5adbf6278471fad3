-- Statements that may be executed on trees, and what that makes.
use Rattle.std.specs.Prelude.{◌≡◌, ℕ, ◌≤◌, Bool, true, cond, List, map, All, Option, Some, None, Box}
use Rattle.std.specs.BTreeMap.{BTreeMap, IsEmpty}
use Rattle.std.specs.declared.alloc.Global.{Global}
use Rattle.flat_form.specs.declared.flat.FExpr.{FExpr}
use Rattle.flat_form.specs.declared.flat.FStmt.{FStmt}
use Rattle.flat_form.specs.declared.flat.FCaseItem.{FCaseItem}
use Rattle.flat_form.specs.View.{stmt_of, expr_of, exprs_of, arm_of, items_of}
use Rattle.flat_form.specs.Sizes.{is_stmt_sized, are_labels_sized}
use Rattle.cell_graph.specs.declared.cell.CellId.{CellId}
use Rattle.cell_graph.specs.Tree.{Tree}
use Rattle.flat_meaning.specs.Flat.{Stmt, Null, Items, no_items, default_item, largest, case_size, assigns, case_assigns}
use Rattle.flat_meaning.specs.Assigned.{Done, FitsStmt}
use Rattle.flat_meaning.specs.Trees.{Selects, Trees, after, after_case}
use Rattle.driver_trees.specs.declared.draft.Draft.{Draft}
use Rattle.driver_trees.specs.declared.present.Present.{Present}
use Rattle.driver_trees.specs.Drafts.{tree_in, IsDraftOf}
use Rattle.driver_trees.specs.Growth.{Grows}
use Rattle.driver_trees.specs.Presents.{IsWithin, IsRead, AreRead}
use Rattle.driver_trees.specs.Changes.{Assigns, IsProcess, IsBranch, look_of}

-- a statement of right sizes, in which only bits that are there are read and assigned
pub record IsStmtRead (wid : ℕ → ℕ) (s : FStmt) : Type 0 where
  pub sized : is_stmt_sized wid s ≡ true
  pub done : Done
  pub fits : FitsStmt wid (λ d. IsWithin wid) done (stmt_of s)

-- the process after a statement, which assigned exactly these signals
pub record RunsTo (wid : ℕ → ℕ) (ds es : List Draft) (p q : Present) (target assigned : ℕ → Bool) (us : Selects → Trees) : Type 0 where
  pub grows : Grows wid ds es
  pub assigns : Assigns p q assigned
  pub process : IsProcess wid es q target us

-- the second branch of an `if`: none is a statement that does nothing
abbrev pub other_of : Option (Box FStmt Global) → Stmt
other_of None = Null
other_of (Some s) = stmt_of s.value

abbrev pub IsOtherRead : (ℕ → ℕ) → Option (Box FStmt Global) → Type 0
IsOtherRead wid None = Unit {0}
IsOtherRead wid (Some s) = IsStmtRead wid s.value

-- ---- cases

-- an item whose labels are compared at w bits, and which assigns targets alone
pub record IsItemRead (wid : ℕ → ℕ) (target : ℕ → Bool) (w : ℕ) (i : FCaseItem) : Type 0 where
  pub labels : AreRead wid i.labels
  pub room : largest (exprs_of (map expr_of i.labels)) ≤ w
  pub body : IsStmtRead wid i.body
  pub targets : (x : ℕ) → assigns (stmt_of i.body) x ≡ true → target x ≡ true

-- what stands behind all items
abbrev pub default_of : Option (Box FStmt Global) → Items
default_of None = no_items
default_of (Some s) = default_item (stmt_of s.value)

abbrev pub case_of : List FCaseItem → Option (Box FStmt Global) → Items
case_of is default = items_of (map arm_of is) (default_of default)

-- a case of right sizes, in which only bits that are there are read and assigned, and targets alone are assigned
pub record IsCaseRead (wid : ℕ → ℕ) (target : ℕ → Bool) (e : FExpr) (is : List FCaseItem) (last : Option (Box FStmt Global)) : Type 0 where
  pub subject : IsRead wid e
  pub sized : are_labels_sized is ≡ true
  pub items : All (IsItemRead wid target (case_size (expr_of e) (case_of is last))) is
  pub default : IsOtherRead wid last
  pub targets : (x : ℕ) → assigns (other_of last) x ≡ true → target x ≡ true
  pub most : case_size (expr_of e) (case_of is last) ≤ 64

-- a word of w bits, with its tree
pub record IsWord (ds : List Draft) (id : CellId) (w : ℕ) (t : Selects → Tree) : Type 0 where
  pub place : IsDraftOf ds id w
  pub tree : (sel : Selects) → tree_in sel ds id ≡ t sel

-- the trees after some items of a case, of which each is tried; in a full case `otherwise` is what the item before them leaves
abbrev pub tried : (ℕ → ℕ) → (blocking : Bool) → (target : ℕ → Bool) → (full : Bool) → (w : ℕ) → (subject : Selects → Tree) → (otherwise ts : Selects → Trees) → Items → Selects → Trees
tried wid blocking target full w t otherwise ts is sel = after_case wid (look_of wid blocking target sel) full w (t sel) (cond full (otherwise sel) (ts sel)) is (ts sel)

-- the changes of the last items of a case; none before the last item of a full case is known
abbrev pub IsRest : (ℕ → ℕ) → List Draft → Present → (target : ℕ → Bool) → (full : Bool) → (w : ℕ) → (subject : Selects → Tree) → (ts : Selects → Trees) → Items → Option (BTreeMap ℕ CellId) → Type 0
IsRest wid ds p target full w t ts is None = (full ≡ true) × (is ≡ no_items)
IsRest wid ds p target full w t ts is (Some changes) = (otherwise : Selects → Trees) → IsBranch wid ds p changes (case_assigns is) (tried wid p.blocking target full w t otherwise ts is)

abbrev pub IsNoneOrEmpty : Option (BTreeMap ℕ CellId) → Type 0
IsNoneOrEmpty None = Unit {0}
IsNoneOrEmpty (Some changes) = IsEmpty changes

-- the changes of a default
abbrev pub IsDefault : (ℕ → ℕ) → List Draft → Present → (target : ℕ → Bool) → (ts : Selects → Trees) → Option (Box FStmt Global) → Option (BTreeMap ℕ CellId) → Type 0
IsDefault wid ds p target ts None None = Unit {0}
IsDefault wid ds p target ts None (Some changes) = ⊥
IsDefault wid ds p target ts (Some s) None = ⊥
IsDefault wid ds p target ts (Some s) (Some changes) = IsBranch wid ds p changes (assigns (stmt_of s.value)) (λ sel. after wid (look_of wid p.blocking target sel) (stmt_of s.value) (ts sel))
