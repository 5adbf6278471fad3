-- Sets of names, by the names that they keep.
use Rattle.std.specs.Prelude.{◌≡◌, Bool, cond, List, [], ◌∷◌, ◌++◌, bytes_eq}
use Rattle.std.specs.List.{list_any}
use Rattle.std.specs.Borrow.{Bor}
use Rattle.cdc_base.specs.Words.{is_in}
use Rattle.flat_unfolding.specs.Outcome.{Text}

-- a set that keeps these has a name
abbrev pub has : List (Bor Text) → Text → Bool
has keys x = list_any (λ (n : Bor Text). bytes_eq x n.now) keys

-- one more name, unless it is there
abbrev pub put : Bor Text → List (Bor Text) → List (Bor Text)
put x keys = cond (has keys x.now) keys (keys ++ x ∷ [])

-- a set has exactly the names of a list
abbrev pub Holds : List (Bor Text) → List Text → Type 0
Holds keys names = (x : Text) → has keys x ≡ is_in names x
