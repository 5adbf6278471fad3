-- How reset nets are found: the marks of signals, and what is known once a signal was tried.
use Rattle.std.specs.Prelude.{◌≡◌, ◌≢◌, ℕ, ◌==◌, Bool, true, false, cond, not, ◌&&◌, List, [], ◌∷◌, filter, Option, Some, None, is_some, unwrap_or, option_map, option_and_then, slice_get}
use Rattle.std.specs.List.{list_all}
use Rattle.flat_form.specs.declared.flat.FlatAssign.{FlatAssign}
use Rattle.flat_form.specs.View.{expr_of, target_of}
use Rattle.flat_meaning.specs.Flat.{Expr, Target, Whole, is_target}
use Rattle.reset_nets.specs.declared.drives.Drive.{Drive}
use Rattle.reset_nets.specs.declared.drives.Drive.TheVariants.{Nothing, Once, Otherwise}
use Rattle.reset_nets.specs.Nets.{reads_of, value_at, goes_to, plain_value}

-- the level of a signal in a list, where it is known
abbrev pub known_in : List (Option Bool) → ℕ → Option Bool
known_in levels s = option_and_then (λ (o : Option Bool). o) (slice_get levels s)

-- the level of a signal that is known to be a net
abbrev pub level_in : (ℕ → Option Bool) → ℕ → Bool
level_in known s = unwrap_or (known s) false

-- the inactive levels of nets, or their active ones
abbrev pub levels_at : (active : Bool) → (ℕ → Option Bool) → ℕ → Bool
levels_at active known s = cond active (not (level_in known s)) (level_in known s)

-- one signal or more, each of which is known to be a net
abbrev pub are_known : (ℕ → Option Bool) → List ℕ → Bool
are_known known [] = false
are_known known (s ∷ rest) = is_some (known s) && list_all (λ t. is_some (known t)) rest

abbrev pub if_differ : (low active : Bool) → Option Bool
if_differ true true = None
if_differ true false = Some true
if_differ false true = Some false
if_differ false false = None

-- the level of a signal with this value as its only assignment, where that makes it a net
abbrev pub level_made : (ℕ → Option Bool) → Expr → Option Bool
level_made known e = cond (are_known known (reads_of e)) (if_differ (value_at (levels_at false known) e) (value_at (levels_at true known) e)) None

-- what is known once a signal was tried
abbrev pub tried : (ℕ → Option Bool) → (v : ℕ) → Option Expr → ℕ → Option Bool
tried known v None s = known s
tried known v (Some e) s = cond (v == s) (level_made known e) (known s)

-- ---- which assignments go to a signal

abbrev pub drive_at : List Drive → ℕ → Drive
drive_at drives s = unwrap_or (slice_get drives s) Nothing

-- one assignment more
abbrev pub also : Drive → Drive → Drive
also Nothing d = d
also (Once k) d = Otherwise
also Otherwise d = Otherwise

-- the assignment with number k under the plain name of its target, or otherwise
abbrev pub drive_of : ℕ → Target → Drive
drive_of k (Whole s) = Once k
drive_of k t = Otherwise

-- a mark once the assignment of this number to a target is noted
abbrev pub noted : (s k : ℕ) → Target → Drive → Drive
noted s k t d = cond (is_target t s) (also d (drive_of k t)) d

-- an assignment without pointers
abbrev pub pair_of : FlatAssign → Target × Expr
pair_of a = (target_of a.target, expr_of a.value)

-- a mark tells of the assignments that go to a signal: there is none; or one alone, under its plain name, with its number; or there are others
abbrev pub Tells : List (Target × Expr) → ℕ → Drive → Type 0
Tells given s Nothing = filter (goes_to s) given ≡ []
Tells given s (Once k) = (e : Expr) × (slice_get given k ≡ Some (Whole s, e)) × (filter (goes_to s) given ≡ (Whole s, e) ∷ [])
Tells given s Otherwise = (filter (goes_to s) given ≢ []) × (plain_value (filter (goes_to s) given) ≡ None)

-- the value of the only assignment that goes to a signal under its plain name
abbrev pub value_of : List (Target × Expr) → Drive → Option Expr
value_of given Nothing = None
value_of given (Once k) = option_map (λ (a : Target × Expr). a.1) (slice_get given k)
value_of given Otherwise = None
