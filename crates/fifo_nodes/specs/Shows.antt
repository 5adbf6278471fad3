-- What terms say of bits of a code and of the code that came over.
use Rattle.std.specs.Prelude.{◌≡◌, ℕ, ◌<◌, Bool, Some, List, length, slice_get}
use Rattle.cell_graph.specs.Origin.{TreeBit}
use Rattle.fifo_terms.specs.Codes.{Code, IsCodeBit}
use Rattle.fifo_terms.specs.Terms.{Term, Differ, AreOne}

-- bit i of the code that came over is this node, and differs by v
abbrev pub IsApart : List TreeBit → (ℕ → ℕ → Bool) → TreeBit → Bool → ℕ → Type 0
IsApart over apart y v i = (slice_get over i ≡ Some y) × (v ≡ apart (length over) i)

-- the nodes are some bit of the code and of that which came over, which differ by v
abbrev pub Compares : Code → List TreeBit → (ℕ → ℕ → Bool) → (own came : TreeBit) → Bool → Type 0
Compares k over apart x y v = (i : ℕ) × (i < length over) × IsCodeBit k i x × IsApart over apart y v i

-- the term says of some bit of the code and of that which came over how they differ
abbrev pub IsSaid : Code → List TreeBit → (ℕ → ℕ → Bool) → Term → Type 0
IsSaid k over apart t = (i : ℕ) × (x : TreeBit) × (y : TreeBit) × (i < length over) × IsCodeBit k i x × (slice_get over i ≡ Some y)
    × AreOne t (Differ x y (apart (length over) i))
