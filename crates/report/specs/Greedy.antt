-- Patterns, piece by piece between their stars.
use Rattle.std.specs.Prelude.{ℕ, ◌==◌, Bool, if◌then◌else◌, List, [], ◌∷◌, Option, None, Some}
use Rattle.std.specs.List.{list_any}

abbrev pub has_star : List ℕ → Bool
has_star pattern = list_any (λ c. c == 42) pattern

-- what stands behind this front in the line
abbrev pub behind : List ℕ → List ℕ → Option (List ℕ)
behind [] line = Some line
behind (c ∷ cs) [] = None
behind (c ∷ cs) (b ∷ bs) = if b == c then behind cs bs else None

abbrev pub or_later : Option (List ℕ) → ℕ → Option (List ℕ) → Option (List ℕ)
or_later (Some rest) b later = Some rest
or_later None b later = if b == 32 then None else later

-- what stands behind the piece where it first begins, with no space before it
abbrev pub first_behind : List ℕ → List ℕ → Option (List ℕ)
first_behind piece [] = behind piece []
first_behind piece (b ∷ bs) = or_later (behind piece (b ∷ bs)) b (first_behind piece bs)
