-- The bits that have a value of their own: those of registers and of the top's inputs.
use Rattle.std.specs.Prelude.{ℕ, ◌+◌, List, [], ◌∷◌}
use Rattle.cdc_base.specs.declared.signal.Signal.{Signal}
use Rattle.cdc_base.specs.declared.signal.SigKind.{SigKind}
use Rattle.cdc_base.specs.declared.signal.SigKind.TheVariants.{Input, Register, Wire}

abbrev pub own_bits : SigKind → ℕ → ℕ
own_bits Input width = width
own_bits Register width = width
own_bits Wire width = 0

abbrev pub state_bits : List Signal → ℕ
state_bits [] = 0
state_bits (s ∷ ss) = own_bits s.kind s.width + state_bits ss
