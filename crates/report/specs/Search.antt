-- How the first waiver that matches a line is looked up: those without a star by a table, the others in their order.
use Rattle.std.specs.Prelude.{ℕ, ◌+◌, nat_lt, Bool, false, not, ◌&&◌, if◌then◌else◌, List, [], ◌∷◌, Option, None, Some}
use Rattle.std.specs.Str.{bytes_eq}
use Rattle.clock_constraints.specs.declared.Waiver.{Waiver}
use Rattle.report.specs.Greedy.{has_star}
use Rattle.report.specs.Waived.{matches}

-- the first waiver without a star that is the line, from a place on
abbrev pub exact_match : List ℕ → ℕ → List Waiver → Option ℕ
exact_match line place [] = None
exact_match line place (w ∷ ws) = if not (has_star w.finding) && bytes_eq line w.finding then Some place else exact_match line (place + 1) ws

-- the waivers with a star, from a place on
abbrev pub starred : ℕ → List Waiver → List (ℕ × List ℕ)
starred place [] = []
starred place (w ∷ ws) = if has_star w.finding then (place, w.finding) ∷ starred (place + 1) ws else starred (place + 1) ws

abbrev pub is_before : Option ℕ → ℕ → Bool
is_before None place = false
is_before (Some exact) place = nat_lt exact place

-- the first of the exact waiver and those with a star
abbrev pub earliest : List ℕ → Option ℕ → List (ℕ × List ℕ) → Option ℕ
earliest line exact [] = exact
earliest line exact (p ∷ ps) = if is_before exact p.0 then exact else if matches p.1 line then Some p.0 else earliest line exact ps
