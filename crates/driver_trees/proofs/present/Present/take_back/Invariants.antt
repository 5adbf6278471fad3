use Rattle.std.proofs.Common.{◌≡◌, ℕ, cond, Option, None, is_some, drop, option_map, unwrap_or}
use Rattle.std.specs.Option.{option_or}
use Rattle.std.specs.Ordering.{nat_cmp}
use Rattle.std.specs.BTreeMap.{get}
use Rattle.driver_trees.specs.Presents.{present_of}
use Rattle.driver_trees.specs.Changes.{first_of}
use Rattle.driver_trees.proofs.present.Present.take_back.Given as goal

-- what is taken back, and what is left of the log, make the whole
abbrev pub invariant-loop-place : goal.invariant-loop-place
invariant-loop-place l =
    (l.self.log.items ≡ l.initial.self.log.items) × (l.self.widths.items ≡ l.initial.self.widths.items) × (l.self.blocking ≡ l.initial.self.blocking)
    × ((x : ℕ) → option_or (get nat_cmp l.changes x) (cond (is_some (first_of (drop l.place l.self.log.items) x)) (present_of l.self x) None)
    ≡ cond (is_some (first_of (drop l.mark l.initial.self.log.items) x)) (present_of l.initial.self x) None)
    × ((x : ℕ) → cond (is_some (get nat_cmp l.changes x)) (present_of l.self x) (option_map (unwrap_or (first_of (drop l.place l.self.log.items) x)) (present_of l.self x))
    ≡ option_map (unwrap_or (first_of (drop l.mark l.initial.self.log.items) x)) (present_of l.initial.self x))
