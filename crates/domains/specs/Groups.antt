-- The groups of clocks.
use Rattle.std.specs.Prelude.{◌≡◌, ℕ, List, [], ◌∷◌, ◌++◌, Some, slice_get, if◌then◌else◌}
use Rattle.std.specs.List.{list_any}
use Rattle.std.specs.Str.{bytes_eq}
use Rattle.clock_constraints.specs.Refusals.{Text}
use Rattle.clock_constraints.specs.declared.ClockPin.{ClockPin}

-- the names, each where it is first mentioned; those that were mentioned before are left out
abbrev pub mentions : List Text → List Text → List Text
mentions before [] = []
mentions before (n ∷ ns) = if list_any (bytes_eq n) before then mentions before ns else n ∷ mentions (before ++ n ∷ []) ns

-- the names with one more, if it is new
abbrev pub with_name : List Text → Text → List Text
with_name names name = if list_any (bytes_eq name) names then names else names ++ name ∷ []

-- the clock is in the group with this number
abbrev pub IsInGroup : List Text → ClockPin → ℕ → Type 0
IsInGroup groups c k = slice_get groups k ≡ Some c.group
