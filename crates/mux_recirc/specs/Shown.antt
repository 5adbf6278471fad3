-- What next values are under cubes of two bits.
use Rattle.std.specs.Prelude.{Bool, not, [], ◌∷◌}
use Rattle.cdc_base.specs.declared.bit.Bit.{Bit}
use Rattle.cell_graph.specs.declared.net.Net.{Net}
use Rattle.cell_graph.specs.Cofactor.{same}
use Rattle.cell_graph.specs.Reading.{Cube, bit_eq}
use Rattle.cdc_model.specs.Design.{at_bit}
use Rattle.cdc_model.specs.Nets.{next_tree}

-- under the cube the bit keeps its value
abbrev pub keeps : Net → Cube → Bit → Bool
keeps net cube b = at_bit (same cube (next_tree net b.sig) b.at) (λ a. bit_eq a b)

-- the request has the value, and the ring's last flop the other
abbrev pub differing : Bit → Bit → Bool → Cube
differing request last v = (request, v) ∷ (last, not v) ∷ []

-- both bits of a gate have the value
abbrev pub equal : Bit → Bit → Bool → Cube
equal p q v = (p, v) ∷ (q, v) ∷ []
