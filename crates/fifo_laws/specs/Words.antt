-- The words of a FIFO: its word bits, its columns, and the reads of a column.
use Rattle.std.specs.Prelude.{◌≡◌, ◌⊎◌, ℕ, zero, suc, ◌<◌, ◌-◌, ◌^◌, true, Some, List, [], ◌∷◌, length, slice_get, Contains}
use Rattle.cdc_base.specs.declared.bit.Bit.{Bit}
use Rattle.cell_graph.specs.Tree.{Tree, Var, Mux, bit_at}
use Rattle.cell_graph.specs.Origin.{TreeBit, origin}
use Rattle.cdc_model.specs.Design.{Design}
use Rattle.fifo_terms.specs.Terms.{Term, Is, HasTerm, HaveOneSet, terms}
use Rattle.fifo_terms.specs.Takes.{taken}
use Rattle.fifo_laws.specs.Sides.{Side, bit_node, side_width}
use Rattle.fifo_laws.specs.Tests.{IsFullTest}

-- the terms that the low m bits of register sig, of w bits, are those of n
abbrev pub low_bits : (sig w m n : ℕ) → List Term
low_bits sig w zero n = []
low_bits sig w (suc m) n = Is (Some (Var sig w, m)) (bit_at n m) ∷ low_bits sig w m n

-- the terms that a side's count is at word n: its bits but the highest are those of n
abbrev pub index_terms : Design → Side → ℕ → List Term
index_terms d s n = low_bits s.reg.count (side_width d s) (side_width d s - 1) n

-- how many words there are
abbrev pub depth_of : Design → Side → ℕ
depth_of d s = 2 ^ (side_width d s - 1)

-- A word bit for n: a register bit that takes the value where the count is at n and some of the terms of a push hold, a test for full among them.
pub record IsWordBit (d : Design) (tree : ℕ → Tree) (write read : Side) (n : ℕ) (value : TreeBit) (m : Bit) : Type 0 where
  pub register : d.is_register m ≡ true
  pub clock : d.clock m ≡ Some write.clock
  pub takes : (taken m (tree m.sig) m.at).node ≡ value
  pub index : (t : Term) → Contains (index_terms d write n) t → HasTerm (taken m (tree m.sig) m.at).under t
  pub others : (t : Term) → Contains (taken m (tree m.sig) m.at).under t → HasTerm (index_terms d write n) t ⊎ HasTerm write.under t
  pub guarded : (t : Term) × Contains (taken m (tree m.sig) m.at).under t × HasTerm write.under t × IsFullTest d tree write read t

-- a word bit, for some n
abbrev pub IsWord : Design → (ℕ → Tree) → (write read : Side) → Bit → Type 0
IsWord d tree write read m = (n : ℕ) × (value : TreeBit) × (n < depth_of d write) × IsWordBit d tree write read n value m

-- One bit of all words, from word 0 on, and the node that each of them takes.
pub record Column : Type 0 where
  pub words : List Bit
  pub value : TreeBit

-- A column: a word bit for each n, which take one node.
pub record IsColumn (d : Design) (tree : ℕ → Tree) (write read : Side) (c : Column) : Type 0 where
  pub depth : length c.words ≡ depth_of d write
  pub words : (n : ℕ) (m : Bit) → slice_get c.words n ≡ Some m → IsWordBit d tree write read n c.value m

-- the node chooses among these words, for n on, by a side's count
abbrev pub Chooses : Design → Side → (n : ℕ) → List Bit → TreeBit → Type 0
Chooses d s n [] x = ⊥
Chooses d s n (m ∷ []) x = x ≡ bit_node d m
Chooses d s n (m ∷ k ∷ ms) x = (c : Tree) × (a : Tree) × (b : Tree) × (i : ℕ) × (x ≡ Some (Mux c a b, i))
    × HaveOneSet (terms c 0 true) (index_terms d s n) × (origin a i ≡ bit_node d m) × Chooses d s (suc n) (k ∷ ms) (origin b i)

-- a read of a column
abbrev pub IsReadOf : Design → (ℕ → Tree) → (write read : Side) → Column → TreeBit → Type 0
IsReadOf d tree write read c x = IsColumn d tree write read c × Chooses d read 0 c.words x
