use Rattle.std.proofs.Common.{◌≡◌, ℕ, Bool, true, cond, ◌||◌, is_some}
use Rattle.std.specs.Ordering.{nat_cmp}
use Rattle.std.specs.Map.{lookup}
use Rattle.std.specs.BTreeMap.{get, is_at}
use Rattle.driver_trees.specs.Presents.{present_of, is_target}
use Rattle.driver_trees.specs.Changes.{Assigns}
use Rattle.driver_trees.proofs.present.Present.set_all.Given as goal

-- what is assigned and what is left make all changes
abbrev pub invariant-loop-sig : goal.invariant-loop-sig
invariant-loop-sig l =
    ((x : ℕ) → is_some (get nat_cmp l.changes x) ≡ true → is_target l.initial.self x ≡ true)
    → (done : ℕ → Bool) × Assigns l.initial.self l.self done × ((x : ℕ) → (done x || is_some (lookup (is_at (nat_cmp x)) l.sig-iterator)) ≡ is_some (get nat_cmp l.changes x))
    × ((x : ℕ) → present_of l.self x ≡ cond (done x) (get nat_cmp l.changes x) (present_of l.initial.self x))
