-- The numbers of a record's rules.
use Rattle.std.specs.Prelude.{ℕ, List, [], ◌∷◌}

abbrev pub record_numbers : List ℕ
record_numbers = 501 ∷ 502 ∷ 503 ∷ 508 ∷ 509 ∷ 604 ∷ []
