-- The Gray registers among registers of a net.
use Rattle.std.specs.Prelude.{◌≡◌, Option, Some, None, List, [], ◌∷◌, Contains}
use Rattle.cell_graph.specs.Cells.{Cells}
use Rattle.cdc_model.specs.declared.scheme.GrayReg.{GrayReg}
use Rattle.cdc_model.specs.declared.scheme.Shape.{Shape}
use Rattle.cdc_model.specs.GrayShape.{HasShape}
use Rattle.cdc_model.specs.Ordered.{IsAscending}
use Rattle.cdc_model.specs.Verdict.{gray_key}
use Rattle.gray_pointer.specs.declared.register.Register.{Register}
use Rattle.gray_pointer.specs.Registers.{Fits}
use Rattle.gray_pointer.specs.Words.{word_of}

-- the second register starts with the code of the first and follows it in this way
abbrev pub Follows : Cells → Register → Register → Shape → Type 0
Follows g count gray s = Fits count gray × HasShape s count.sig gray.sig count.width (word_of g count.next count.width) (word_of g gray.next count.width)

-- the two as a counter and its Gray register
abbrev pub gray_reg : Register → Register → Shape → GrayReg
gray_reg count gray s = record { count = count.sig; gray = gray.sig; shape = s }

-- that one where the second follows the first, and else none
abbrev pub found_grays : Register → Register → Option Shape → List GrayReg
found_grays count gray None = []
found_grays count gray (Some s) = gray_reg count gray s ∷ []

abbrev pub IsFollowed : Cells → Register → Register → Option Shape → Type 0
IsFollowed g count gray None = (s : Shape) → Follows g count gray s → ⊥
IsFollowed g count gray (Some s) = Follows g count gray s

-- All Gray registers of these counters and registers, each once, ascending.
pub record AreGrays (g : Cells) (counts grays : List Register) (found : List GrayReg) : Type 0 where
  pub only : (x : GrayReg) → Contains found x → (c r : Register) × Contains counts c × Contains grays r × Follows g c r x.shape × (x ≡ gray_reg c r x.shape)
  pub all : (c r : Register) (s : Shape) → Contains counts c → Contains grays r → Follows g c r s → Contains found (gray_reg c r s)
  pub ordered : IsAscending gray_key found
