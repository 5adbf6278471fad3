-- What assigns a signal.
use Rattle.std.specs.Prelude.{ℕ, Bool, ◌||◌, List, Option}
use Rattle.std.specs.List.{list_any}
use Rattle.flat_meaning.specs.Flat.{Expr, Target, Stmt, is_target, assigns}

abbrev pub are_targets_of : List (Target × Expr) → ℕ → Bool
are_targets_of assigned s = list_any (λ (a : Target × Expr). is_target a.0 s) assigned

abbrev pub are_assigned_by : List Stmt → ℕ → Bool
are_assigned_by bodies s = list_any (λ body. assigns body s) bodies

-- the first branch of a reset does
abbrev pub are_set_by : List (Option ℕ × Stmt) → ℕ → Bool
are_set_by resets s = list_any (λ (r : Option ℕ × Stmt). assigns r.1 s) resets

abbrev pub are_clocked_by : List (ℕ × Stmt) → ℕ → Bool
are_clocked_by ps s = list_any (λ (p : ℕ × Stmt). assigns p.1 s) ps

-- any of them does
abbrev pub is_assigned_in : List (Target × Expr) → (combs : List Stmt) → (resets : List (Option ℕ × Stmt)) → List (ℕ × Stmt) → ℕ → Bool
is_assigned_in assigned combs resets clocked s = are_targets_of assigned s ||
    (are_assigned_by combs s || (are_set_by resets s || are_clocked_by clocked s))
