-- The order of state bits: by signal, then by place.
use Rattle.std.specs.Prelude.{◌≡◌, ◌⊎◌, ℕ, ◌<◌, List, Some, slice_get}
use Rattle.cdc_base.specs.declared.bit.Bit.{Bit}

abbrev pub IsBefore : Bit → Bit → Type 0
IsBefore a b = (a.sig < b.sig) ⊎ ((a.sig ≡ b.sig) × (a.at < b.at))

-- each before all later ones, none twice
abbrev pub AreAscending : List Bit → Type 0
AreAscending bits = (i j : ℕ) (a b : Bit) → i < j → slice_get bits i ≡ Some a → slice_get bits j ≡ Some b → IsBefore a b
