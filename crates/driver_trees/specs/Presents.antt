-- What expressions read while a process is executed.
use Rattle.std.specs.Prelude.{◌≡◌, ℕ, ◌+◌, ◌≤◌, Bool, cond, true, List, [], ◌∷◌, map, Option, Some, None, is_some, slice_get, unwrap_or}
use Rattle.std.specs.Option.{option_map_or, option_flatten}
use Rattle.cell_graph.specs.declared.cell.CellId.{CellId}
use Rattle.cell_graph.specs.Tree.{Const}
use Rattle.flat_form.specs.declared.flat.FExpr.{FExpr}
use Rattle.flat_form.specs.View.{expr_of, exprs_of}
use Rattle.flat_form.specs.Sizes.{kept_of, is_sized, all_right}
use Rattle.flat_meaning.specs.Flat.{size}
use Rattle.flat_meaning.specs.Trees.{Selects, Trees}
use Rattle.flat_meaning.specs.Fits.{Fits, AllFit}
use Rattle.flat_meaning.specs.Law.{AreWords, present}
use Rattle.driver_trees.specs.declared.draft.Draft.{Draft}
use Rattle.driver_trees.specs.declared.present.Present.{Present}
use Rattle.driver_trees.specs.Drafts.{tree_in, IsDraftOf}

-- the bits of a signal; none where there is no such signal
abbrev pub width_in : Present → ℕ → ℕ
width_in p s = unwrap_or (slice_get p.widths.items s) 0

-- the present tree of a target; none for any other signal
abbrev pub present_of : Present → ℕ → Option CellId
present_of p s = option_flatten (slice_get p.trees.items s)

-- the tree that a read sees, where it doesn't see the signal as it is
abbrev pub shown_of : Present → ℕ → Option CellId
shown_of p s = cond p.blocking (present_of p s) None

abbrev pub is_target : Present → ℕ → Bool
is_target p s = is_some (present_of p s)

abbrev pub trees_of : Selects → List Draft → Present → Trees
trees_of sel ds p s = option_map_or (tree_in sel ds) (present_of p s) (Const 0 0)

-- what a select stands for: a process of wires reads its own targets as they are at that place
abbrev pub looks : (ℕ → ℕ) → Selects → List Draft → Present → Selects
looks wid sel ds p = cond p.blocking (present wid sel (is_target p) (trees_of sel ds p)) sel

-- each present tree is a draft of its signal's bits, and `look` tells what selects of bits that are there stand for
pub record Sees (wid : ℕ → ℕ) (ds : List Draft) (p : Present) (look : Selects → Selects) : Type 0 where
  pub words : AreWords wid
  pub widths : (s : ℕ) → width_in p s ≡ wid s
  pub trees : (s : ℕ) (id : CellId) → present_of p s ≡ Some id → IsDraftOf ds id (wid s)
  pub looks : (sel : Selects) (s at w : ℕ) → at + w ≤ wid s → look sel s at w ≡ looks wid sel ds p s at w

-- a select of bits that the signal has
abbrev pub IsWithin : (ℕ → ℕ) → (sig at width : ℕ) → Type 0
IsWithin wid s at w = at + w ≤ wid s

-- an expression of right sizes that reads bits that are there
pub record IsRead (wid : ℕ → ℕ) (e : FExpr) : Type 0 where
  pub sized : is_sized e ≡ true
  pub fits : Fits wid (IsWithin wid) (expr_of e)

pub record AreRead (wid : ℕ → ℕ) (es : List FExpr) : Type 0 where
  pub sized : all_right (map kept_of es) ≡ true
  pub fits : AllFit wid (IsWithin wid) (exprs_of (map expr_of es))
