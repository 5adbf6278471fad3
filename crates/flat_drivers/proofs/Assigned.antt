-- The signals that something assigns, list by list.
use Rattle.std.proofs.Common.{◌≡◌, ℕ, ◌≤◌, Bool, true, false, ◌||◌, List, [], length, drop, map, refl, sym, ap, ◌∙◌}
use Rattle.std.proofs.lemmas.List.{drop_all}
use Rattle.std.proofs.Math.Bool.{or-false}
use Rattle.flat_form.specs.declared.flat.FlatAssign.{FlatAssign}
use Rattle.flat_form.specs.declared.flat.FlatComb.{FlatComb}
use Rattle.flat_form.specs.declared.flat.FlatReset.{FlatReset}
use Rattle.flat_form.specs.declared.masks.Masks.{Masks}
use Rattle.flat_form.specs.View.{reset_of}
use Rattle.flat_form.specs.Masks.{has_signal, Lists}
use Rattle.flat_form.proofs.Listed.{Unlisted}
use Rattle.flat_drivers.specs.Driving.{assigned_in, wires_in}
use Rattle.flat_drivers.specs.Driven.{are_targets_of, are_assigned_by, are_set_by}

abbrev pub targets_in : List FlatAssign → ℕ → Bool
targets_in xs s = are_targets_of (assigned_in xs) s

abbrev pub wired_in : List FlatComb → ℕ → Bool
wired_in xs s = are_assigned_by (wires_in xs) s

abbrev pub set_in : List FlatReset → ℕ → Bool
set_in xs s = are_set_by (map reset_of xs) s

-- no more is to come
module _ {X : Type 0} (rs : List X → ℕ → Bool) (none : (s : ℕ) → rs [] s ≡ false) (old now : Masks) where
  pub all-listed : (all : List X) (k : ℕ) → length all ≤ k → Unlisted (has_signal old) now (rs (drop k all)) (rs all) → Lists old now (rs all)
  all-listed all k l h s =
      sym (or-false (has_signal now s)) ∙ ap (λ b. has_signal now s || b) (sym (none s))
      ∙ ap (λ (xs : List X). has_signal now s || rs xs s) (sym (drop_all k all l)) ∙ h s

-- the order of the four does not matter
pub in-order : (c a b r : Bool) → (((c || a) || b) || r) ≡ (a || (b || (r || c)))
in-order true true b r = refl
in-order true false true r = refl
in-order true false false true = refl
in-order true false false false = refl
in-order false true b r = refl
in-order false false true r = refl
in-order false false false true = refl
in-order false false false false = refl
