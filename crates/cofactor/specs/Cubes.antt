-- Cubes as lists of bits with their values.
use Rattle.std.specs.Prelude.{ℕ, Bool, cond, List, map, Option, Some, None}
use Rattle.cdc_base.specs.declared.bit.Bit.{Bit}
use Rattle.cell_graph.specs.Reading as reading
use Rattle.cell_graph.specs.Reading.{bit_eq}
use Rattle.cofactor.specs.declared.cube.Cube.{Cube}
use Rattle.cofactor.specs.declared.cube.Fixed.{Fixed}

abbrev pub bit : ℕ → ℕ → Bit
bit sig at = record { sig = sig; at = at }

abbrev pub fixings : List Fixed → reading.Cube
fixings fs = map (λ (f : Fixed). (f.bit, f.value)) fs

abbrev pub cube_of : Cube → reading.Cube
cube_of c = fixings c.fixed

-- what is fixed of a bit, by the fixings before one and by that one
abbrev pub or_fixed : Option Bool → Fixed → Bit → Option Bool
or_fixed (Some v) f b = Some v
or_fixed None f b = cond (bit_eq f.bit b) (Some f.value) None
