use Rattle.std.specs.Prelude.{ℕ, List, [], slice_get}
use Rattle.std.specs.Option.{option_map_or}
use Rattle.cdc_base.specs.declared.signal.Signal.{Signal}

-- the name of a signal
abbrev pub name_of : List Signal → ℕ → List ℕ
name_of signals sig = option_map_or (λ (s : Signal). s.name) (slice_get signals sig) []
