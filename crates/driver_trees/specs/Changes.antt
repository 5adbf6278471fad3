-- What a statement changes of a process: its present trees, and the log that takes them back.
use Rattle.std.specs.Prelude.{◌≡◌, ℕ, Bool, true, false, cond, ◌||◌, ◌==◌, List, [], ◌∷◌, ◌++◌, Option, Some, None, is_some}
use Rattle.std.specs.Option.{option_or}
use Rattle.std.specs.Ordering.{nat_cmp}
use Rattle.std.specs.BTreeMap.{BTreeMap, get}
use Rattle.cell_graph.specs.declared.cell.CellId.{CellId}
use Rattle.cell_graph.specs.Tree.{Tree, Mux}
use Rattle.flat_meaning.specs.Trees.{Selects, Trees}
use Rattle.flat_meaning.specs.Law.{AreWords, present}
use Rattle.driver_trees.specs.declared.draft.Draft.{Draft}
use Rattle.driver_trees.specs.declared.present.Present.{Present}
use Rattle.driver_trees.specs.Drafts.{tree_in, AreDrafts, IsDraftOf}
use Rattle.driver_trees.specs.Presents.{width_in, present_of, is_target}

-- the draft that a signal had before the first of a log's assignments to it
abbrev pub first_of : List (ℕ × CellId) → ℕ → Option CellId
first_of [] x = None
first_of (e ∷ es) x = cond (x == e.0) (Some e.1) (first_of es x)

-- the same process at the same point
pub record IsSame (p q : Present) : Type 0 where
  pub present : (x : ℕ) → present_of q x ≡ present_of p x
  pub log : q.log.items ≡ p.log.items
  pub widths : q.widths.items ≡ p.widths.items
  pub blocking : q.blocking ≡ p.blocking

-- exactly these signals were assigned, all of them targets; what they were before stands in the log
pub record Assigns (p q : Present) (assigned : ℕ → Bool) : Type 0 where
  pub entries : List (ℕ × CellId)
  pub log : q.log.items ≡ p.log.items ++ entries
  pub logged : (x : ℕ) → is_some (first_of entries x) ≡ assigned x
  pub back : (x : ℕ) → present_of p x ≡ option_or (first_of entries x) (present_of q x)
  pub targets : (x : ℕ) → is_target q x ≡ is_target p x
  pub widths : q.widths.items ≡ p.widths.items
  pub blocking : q.blocking ≡ p.blocking

-- a draft of a signal's bits, with its tree
pub record IsWordOf (wid : ℕ → ℕ) (ds : List Draft) (id : CellId) (x : ℕ) (ts : Selects → Trees) : Type 0 where
  pub place : IsDraftOf ds id (wid x)
  pub tree : (sel : Selects) → tree_in sel ds id ≡ ts sel x

-- a process in the midst of its execution: its targets, and the present trees of these
pub record IsProcess (wid : ℕ → ℕ) (ds : List Draft) (p : Present) (target : ℕ → Bool) (ts : Selects → Trees) : Type 0 where
  pub words : AreWords wid
  pub drafts : AreDrafts wid ds
  pub widths : (s : ℕ) → width_in p s ≡ wid s
  pub targets : (s : ℕ) → is_target p s ≡ target s
  pub trees : (s : ℕ) (id : CellId) → present_of p s ≡ Some id → IsWordOf wid ds id s ts

-- what expressions of the process read
abbrev pub look_of : (ℕ → ℕ) → (blocking : Bool) → (target : ℕ → Bool) → Selects → Trees → Selects
look_of wid blocking target sel ts = cond blocking (present wid sel target ts) sel

-- changes of exactly these signals, each with its tree after them
pub record AreChanges (wid : ℕ → ℕ) (ds : List Draft) (changes : BTreeMap ℕ CellId) (assigned : ℕ → Bool) (ts : Selects → Trees) : Type 0 where
  pub keys : (x : ℕ) → is_some (get nat_cmp changes x) ≡ assigned x
  pub trees : (x : ℕ) (id : CellId) → get nat_cmp changes x ≡ Some id → IsWordOf wid ds id x ts

-- the trees of all targets after the changes
abbrev pub LeavesTrees : (ℕ → ℕ) → List Draft → Present → BTreeMap ℕ CellId → (Selects → Trees) → Type 0
LeavesTrees wid ds p changes ts = (x : ℕ) (id : CellId) → option_or (get nat_cmp changes x) (present_of p x) ≡ Some id → IsWordOf wid ds id x ts

-- a branch, from the present trees on: it assigns exactly these targets, and leaves those trees
pub record IsBranch (wid : ℕ → ℕ) (ds : List Draft) (p : Present) (changes : BTreeMap ℕ CellId) (assigned : ℕ → Bool) (ts : Selects → Trees) : Type 0 where
  pub keys : (x : ℕ) → is_some (get nat_cmp changes x) ≡ assigned x
  pub targets : (x : ℕ) → assigned x ≡ true → is_target p x ≡ true
  pub leaves : LeavesTrees wid ds p changes ts

-- a condition of one bit
pub record IsCondition (ds : List Draft) (id : CellId) (t : Selects → Tree) : Type 0 where
  pub place : IsDraftOf ds id 1
  pub tree : (sel : Selects) → tree_in sel ds id ≡ t sel

abbrev pub chosen : (Selects → Tree) → (ts us : Selects → Trees) → Selects → Trees
chosen t ts us sel x = Mux (t sel) (ts sel x) (us sel x)
