-- Nodes that show that a FIFO is full or empty, by the code of one side and the other side's code that came over.
use Rattle.std.specs.Prelude.{◌≡◌, ℕ, ◌+◌, ◌<◌, Bool, false, not, nat_lt, Some, None, List, length, slice_get}
use Rattle.std.specs.List.{Contains}
use Rattle.cell_graph.specs.Tree.{Tree}
use Rattle.cell_graph.specs.Origin.{TreeBit}
use Rattle.fifo_terms.specs.Codes.{Code, IsCodeBit}
use Rattle.fifo_terms.specs.Terms.{Term, Is, Differ, AreOne, terms, zero_terms}

-- the terms of a node at v
abbrev pub node_terms : TreeBit → Bool → List Term
node_terms None v = zero_terms v
node_terms (Some n) v = terms n.0 n.1 v

-- which bits of the codes differ, of w, where the FIFO is full: the two highest; where it is empty: none
abbrev pub full_apart : ℕ → ℕ → Bool
full_apart w i = nat_lt w (i + 3)

abbrev pub empty_apart : ℕ → ℕ → Bool
empty_apart w i = false

-- a node shows it at v: each of its terms at v says of some bit of the code and that of the code that came over how they differ
abbrev pub Shows : Code → List TreeBit → (ℕ → ℕ → Bool) → TreeBit → Bool → Type 0
Shows k over apart n v = (t : Term) → Contains (node_terms n v) t
    → (i : ℕ) × (x : TreeBit) × (y : TreeBit) × (i < length over) × IsCodeBit k i x × (slice_get over i ≡ Some y) × AreOne t (Differ x y (apart (length over) i))

-- a test by the code: the term that a node is v, which shows it at the other value
abbrev pub IsTest : Code → List TreeBit → (ℕ → ℕ → Bool) → Term → Type 0
IsTest k over apart t = (n : TreeBit) × (v : Bool) × (t ≡ Is n v) × Shows k over apart n (not v)

-- a flag's test: the terms of its next value, bit i of a tree, at u have a test by the next code
abbrev pub IsFlagTest : Code → List TreeBit → (ℕ → ℕ → Bool) → Tree → ℕ → Bool → Type 0
IsFlagTest k over apart next i u = (t : Term) × Contains (terms next i u) t × IsTest k over apart t
