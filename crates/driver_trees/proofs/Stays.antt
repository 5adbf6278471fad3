-- What processes and branches have stays as drafts grow.
use Rattle.std.proofs.Common.{◌≡◌, ℕ, Bool, List, ◌∙◌}
use Rattle.std.specs.Ordering.{nat_cmp}
use Rattle.std.specs.BTreeMap.{BTreeMap, get}
use Rattle.cell_graph.specs.declared.cell.CellId.{CellId}
use Rattle.cell_graph.specs.Tree.{Tree}
use Rattle.flat_meaning.specs.Trees.{Selects, Trees}
use Rattle.driver_trees.specs.declared.draft.Draft.{Draft}
use Rattle.driver_trees.specs.declared.present.Present.{Present}
use Rattle.driver_trees.specs.Drafts.{AreDrafts}
use Rattle.driver_trees.specs.Growth.{Grows, IsBuilt}
use Rattle.driver_trees.specs.Changes.{IsWordOf, IsProcess, AreChanges, LeavesTrees, IsBranch, IsCondition}
use Rattle.driver_trees.proofs.Growing.{place-kept, tree-kept, same-longer, still-grows}

module _ (wid : ℕ → ℕ) (ds es : List Draft) (g : Grows wid ds es) where
  pub word_grows : (id : CellId) (x : ℕ) (ts : Selects → Trees) → IsWordOf wid ds id x ts → IsWordOf wid es id x ts
  word_grows id x ts h = record { place = place-kept ds es id (wid x) g.longer h.place; tree = λ sel. tree-kept sel ds es g.longer id h.place.0 ∙ h.tree sel }

  pub leaves_grow : (p : Present) (changes : BTreeMap ℕ CellId) (ts : Selects → Trees) → LeavesTrees wid ds p changes ts → LeavesTrees wid es p changes ts
  leaves_grow p changes ts h = λ x id e. word_grows id x ts (h x id e)

  pub branch_grows : (p : Present) (changes : BTreeMap ℕ CellId) (a : ℕ → Bool) (ts : Selects → Trees) → IsBranch wid ds p changes a ts → IsBranch wid es p changes a ts
  branch_grows p changes a ts h = record { keys = h.keys; targets = h.targets; leaves = leaves_grow p changes ts h.leaves }

  pub changes_grow : (changes : BTreeMap ℕ CellId) (a : ℕ → Bool) (ts : Selects → Trees) → AreChanges wid ds changes a ts → AreChanges wid es changes a ts
  changes_grow changes a ts h = record { keys = h.keys; trees = λ x id e. word_grows id x ts (h.trees x id e) }

  pub condition_grows : (id : CellId) (t : Selects → Tree) → IsCondition ds id t → IsCondition es id t
  condition_grows id t h = record { place = place-kept ds es id 1 g.longer h.place; tree = λ sel. tree-kept sel ds es g.longer id h.place.0 ∙ h.tree sel }

  pub process_grows : (p : Present) (target : ℕ → Bool) (ts : Selects → Trees) → IsProcess wid ds p target ts → IsProcess wid es p target ts
  process_grows p target ts h = record { words = h.words; drafts = g.drafts; widths = h.widths; targets = h.targets; trees = λ s id e. word_grows id s ts (h.trees s id e) }

pub grows_not : (wid : ℕ → ℕ) (ds : List Draft) → AreDrafts wid ds → Grows wid ds ds
grows_not wid ds h = record { longer = same-longer ds; drafts = h }

module _ (wid : ℕ → ℕ) (ds es : List Draft) (g : Grows wid ds es) where
  -- a word that is built later
  pub built_since : (fs : List Draft) (id : CellId) (w : ℕ) (t u : Selects → Tree) → IsBuilt wid es fs id w t → ((sel : Selects) → t sel ≡ u sel) → IsBuilt wid ds fs id w u
  built_since fs id w t u b e = record { grows = still-grows wid ds es fs g b.grows; place = b.place; tree = λ sel. b.tree sel ∙ e sel }
