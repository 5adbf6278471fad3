-- What the processes that assign a register give it, and the runs of bits that are joined.
use Rattle.std.specs.Prelude.{◌≡◌, ℕ, suc, ◌<◌, cond, List, [], ◌∷◌, Some, None, slice_get}
use Rattle.cell_graph.specs.Tree.{Tree, bit_at}
use Rattle.flat_meaning.specs.Trees.{Selects}
use Rattle.driver_trees.specs.declared.draft.Draft.{Draft}
use Rattle.driver_trees.specs.declared.shared.Giver.{Giver}
use Rattle.driver_trees.specs.declared.shared.OpenRun.{OpenRun}
use Rattle.driver_trees.specs.Drafts.{tree_in, IsDraftOf}
use Rattle.driver_trees.specs.Growth.{IsOptionalDraft, optional_bits, optional_tree}

-- a word for each number
abbrev pub Words : Type 0
Words = Selects → ℕ → Tree

-- which giver may assign a bit, the first counting; where none may, how many they are
abbrev pub giver_at : List Giver → ℕ → ℕ
giver_at [] i = 0
giver_at (g ∷ gs) i = cond (bit_at g.bits i) 0 (suc (giver_at gs i))

-- each giver's tree is the word of its number, and each bit has that giver; behind the last giver, the words are the register's own
pub record AreGiven (wid : ℕ → ℕ) (ds : List Draft) (x : ℕ) (gs : List Giver) (words : Words) (giver : ℕ → ℕ) : Type 0 where
  pub places : (k : ℕ) (g : Giver) → slice_get gs k ≡ Some g → IsDraftOf ds g.tree (wid x)
  pub trees : (k : ℕ) (g : Giver) → slice_get gs k ≡ Some g → (sel : Selects) → tree_in sel ds g.tree ≡ words sel k
  pub own : (k : ℕ) → slice_get gs k ≡ None → (sel : Selects) → words sel k ≡ sel x 0 (wid x)
  pub givers : (i : ℕ) → i < 64 → giver_at gs i ≡ giver i

-- a run of a bit or more up to a place, above a word of all bits below it
pub record IsOpen (ds : List Draft) (run : OpenRun) (to : ℕ) : Type 0 where
  pub some : run.from < to
  pub place : IsOptionalDraft ds run.low
  pub below : optional_bits ds run.low ≡ run.from

-- the word below a run
abbrev pub low_tree : Selects → List Draft → OpenRun → Tree
low_tree sel ds run = optional_tree sel ds run.low
