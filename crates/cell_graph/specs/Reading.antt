-- Readings of the state bits, and cubes of them.
use Rattle.std.specs.Prelude.{◌≡◌, Bool, ◌&&◌, ◌==◌, List, [], ◌∷◌}
use Rattle.cdc_base.specs.declared.bit.Bit.{Bit}

-- the value of each bit
abbrev pub Reading : Type 0
Reading = Bit → Bool

-- the two are one bit
abbrev pub bit_eq : Bit → Bit → Bool
bit_eq a b = (a.sig == b.sig) && (a.at == b.at)

-- bits fixed to values
abbrev pub Cube : Type 0
Cube = List (Bit × Bool)

-- the reading has the cube's values
abbrev pub Meets : Cube → Reading → Type 0
Meets [] r = Unit {0}
Meets (f ∷ fs) r = (r f.0 ≡ f.1) × Meets fs r
