-- Worklists: what is left to look at, and all that was ever added.
use Rattle.std.specs.Prelude.{◌≡◌, ◌⊎◌, ◌++◌, Bool, true, List, [], ◌∷◌, Option, Some, None, Contains}

-- An item is added: what was met before stays met, and what is new is left.
pub record Adds {T : Type 0} (eq : T → T → Bool) (item : T) (met left met_then left_then : List T) : Type 0 where
  pub there : (y : T) × Contains met_then y × (eq item y ≡ true)
  pub kept : (x : T) → Contains met x → Contains met_then x
  pub waits : (x : T) → Contains left x → Contains left_then x
  pub added : (x : T) → Contains met_then x → Contains met x ⊎ (Contains left_then x × (x ≡ item))
  pub only : (x : T) → Contains left_then x → Contains left x ⊎ Contains met_then x

-- an item is taken from what is left, or nothing is left
abbrev pub Takes : {T : Type 0} → List T → List T → Option T → Type 0
Takes left left_then None = left ≡ []
Takes left left_then (Some x) = left ≡ left_then ++ x ∷ []
