-- The law of elaboration.
use Rattle.std.specs.Prelude.{◌≡◌, ℕ, ◌<◌, ◌≤◌, true}
use Rattle.cell_graph.specs.Reading.{Reading}
use Rattle.cell_graph.specs.Tree.{width, bit}
use Rattle.flat_meaning.specs.Values.{Words}
use Rattle.flat_meaning.specs.Trees.{Selects}
use Rattle.flat_meaning.specs.Design.{Flat, size_in, Pin, given, is_variable, Consistent, Next}
use Rattle.flat_meaning.specs.SignalTrees.{AreTrees, tree_of, next_tree_of}
use Rattle.flat_meaning.specs.Sound.{IsSound}
use Rattle.flat_meaning.specs.Segments.{IsLoopFree}

-- a reading has one consistent choice of values; each signal's tree has the value that it gives, and each next tree that of the next step
pub record IsElaborated (f : Flat) (sel : Selects) (pins : ℕ → Pin) (r : Reading) : Type 0 where
  pub values : Words
  pub consistent : Consistent f pins r values
  pub one : (v : Words) → Consistent f pins r v → (s i : ℕ) → i < size_in f s → v s i ≡ values s i
  pub trees : (s : ℕ) → 1 ≤ size_in f s → (width (tree_of f sel s) ≡ size_in f s) × ((i : ℕ) → i < size_in f s → bit (given f pins r) (tree_of f sel s) i ≡ values s i)
  pub nexts : (s : ℕ) → is_variable f s ≡ true → (width (next_tree_of f sel s) ≡ size_in f s) × ((i : ℕ) → i < size_in f s → bit (given f pins r) (next_tree_of f sel s) i ≡ Next f values s i)

abbrev pub LawOfElaboration : Type 0
LawOfElaboration = (f : Flat) → IsSound f → IsLoopFree f → (sel : Selects) → AreTrees f sel → (pins : ℕ → Pin) (r : Reading) → IsElaborated f sel pins r

-- the trees of such a design are there, and they are one
abbrev pub TreesLaw : Type 0
TreesLaw = (f : Flat) → IsSound f → IsLoopFree f → (sel : Selects) × AreTrees f sel × ((other : Selects) → AreTrees f other → (s at w : ℕ) → other s at w ≡ sel s at w)
