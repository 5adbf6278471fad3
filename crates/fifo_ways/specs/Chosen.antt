-- The words among which a node chooses by a count.
use Rattle.std.specs.Prelude.{◌≡◌, Option, Some, None, List, length}
use Rattle.cdc_base.specs.declared.bit.Bit.{Bit}
use Rattle.cell_graph.specs.Origin.{TreeBit}
use Rattle.cdc_model.specs.Design.{Design}
use Rattle.fifo_laws.specs.Sides.{Side}
use Rattle.fifo_laws.specs.Words.{Chooses, depth_of}

-- the node chooses among these words, as many as a side's count tells apart; or among none
abbrev pub IsChosen : Design → Side → TreeBit → Option (List Bit) → Type 0
IsChosen d s x None = (words : List Bit) → length words ≡ depth_of d s → Chooses d s 0 words x → ⊥
IsChosen d s x (Some words) = (length words ≡ depth_of d s) × Chooses d s 0 words x
