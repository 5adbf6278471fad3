-- Signals whose start values are assigned to them, as they are found.
use Rattle.std.specs.Prelude.{◌≡◌, ℕ, suc, ◌-◌, ◌^◌, min, Bool, true, cond, ◌&&◌, List, [], ◌∷◌, ◌++◌, map, Option, Some, None, unwrap_or, slice_get, bit_and}
use Rattle.std.specs.List.{list_all}
use Rattle.flat_meaning.specs.Flat.{Expr, Number, Target, Whole}
use Rattle.flat_form.specs.declared.flat.FlatAssign.{FlatAssign}
use Rattle.flat_form.specs.View.{reset_of}
use Rattle.flat_unfolding.specs.Widths.{keeps_sizes, target_keeps_sizes}
use Rattle.flat_drivers.specs.Driving.{assigned_in, wires_in, clocked_in}
use Rattle.flat_drivers.specs.Driven.{is_assigned_in}
use Rattle.flat_names.specs.declared.design.Design.{Design}
use Rattle.flat_names.specs.declared.design.Entry.{Entry}

-- a process of the design assigns the signal
abbrev pub is_processed_at : Design → ℕ → Bool
is_processed_at d s = is_assigned_in [] (wires_in d.combs.items) (map reset_of d.resets.items) (clocked_in d.clocked.items) s

-- what assigns its start value to a signal of this width
abbrev pub start_assigned : (s w : ℕ) → Option ℕ → List (Target × Expr)
start_assigned s w None = []
start_assigned s w (Some n) = (Whole s, Number w (bit_and n (2 ^ min w 64 - 1))) ∷ []

-- the same of a signal that isn't held; one without a mark is
abbrev pub start_unless_held : List Bool → ℕ → Entry → List (Target × Expr)
start_unless_held held s x = cond (unwrap_or (slice_get held s) true) [] (start_assigned s x.width x.start)

-- the same of all signals from number n on
abbrev pub starts_from : List Bool → (n : ℕ) → List Entry → List (Target × Expr)
starts_from held n [] = []
starts_from held n (x ∷ xs) = start_unless_held held n x ++ starts_from held (suc n) xs

-- whether the widths of assignments are sizes
abbrev pub are_sized : List FlatAssign → Bool
are_sized xs = list_all (λ (x : FlatAssign). target_keeps_sizes x.target && keeps_sizes x.value) xs

-- assignments that end with these more, and whose widths stay sizes
pub record GrowsBy (old new : List FlatAssign) (more : List (Target × Expr)) : Type 0 where
  pub assigned : assigned_in new ≡ assigned_in old ++ more
  pub sizes : are_sized old ≡ true → are_sized new ≡ true
