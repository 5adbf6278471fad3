-- What cofactors and origins promise.
use Rattle.std.specs.Prelude.{◌≡◌, ℕ, Bool, true, Some}
use Rattle.cdc_base.specs.declared.bit.Bit.{Bit}
use Rattle.cell_graph.specs.Reading.{Reading, Cube, Meets}
use Rattle.cell_graph.specs.Tree.{Tree, bit}
use Rattle.cell_graph.specs.Cofactor.{known, same, reads}
use Rattle.cell_graph.specs.Origin.{origin, tree_bit}

-- in every reading of the cube a known bit has its value
abbrev pub KnownHasItsValue : Type 0
KnownHasItsValue = (cube : Cube) (r : Reading) (t : Tree) (i : ℕ) (v : Bool) → Meets cube r → known cube t i ≡ Some v → bit r t i ≡ v

-- in every reading of the cube a bit that is the same as a state bit has that one's value
abbrev pub SameHasItsValue : Type 0
SameHasItsValue = (cube : Cube) (r : Reading) (t : Tree) (i : ℕ) (b : Bit) → Meets cube r → same cube t i ≡ Some b → bit r t i ≡ r b

-- two readings of the cube that agree on what a bit reads give it one value
abbrev pub ReadsDecide : Type 0
ReadsDecide = (cube : Cube) (r q : Reading) (t : Tree) (i : ℕ) → Meets cube r → Meets cube q
    → ((b : Bit) → reads cube t i b ≡ true → r b ≡ q b) → bit r t i ≡ bit q t i

-- an origin has the value of the bit
abbrev pub OriginHasTheValue : Type 0
OriginHasTheValue = (r : Reading) (t : Tree) (i : ℕ) → bit r t i ≡ tree_bit r (origin t i)
