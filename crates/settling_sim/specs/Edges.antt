-- Which clocks tick.
use Rattle.std.specs.Prelude.{ℕ, Bool, true, false, Option, Some, None, List, [], ◌∷◌, set, length, replicate, slice_get, unwrap_or}

-- the clocks of the edges marked
abbrev pub mark_in : List Bool → List ℕ → List Bool
mark_in ticking [] = ticking
mark_in ticking (e ∷ es) = mark_in (set ticking e true) es

-- the clock is there, and it is marked
abbrev pub is_marked : List Bool → Option ℕ → Bool
is_marked ticking None = false
is_marked ticking (Some c) = unwrap_or (slice_get ticking c) false
