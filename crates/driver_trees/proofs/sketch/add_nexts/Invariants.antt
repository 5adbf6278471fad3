use Rattle.std.proofs.Common.{◌≡◌, ℕ, true, is_some, unwrap_or, option_map, ◌++◌}
use Rattle.std.specs.Option.{option_or}
use Rattle.std.specs.Ordering.{nat_cmp}
use Rattle.std.specs.Map.{lookup}
use Rattle.std.specs.BTreeMap.{get, is_at}
use Rattle.driver_trees.specs.Presents.{present_of}
use Rattle.driver_trees.specs.Sketched.{givers_in, clock_at, given_by}
use Rattle.driver_trees.proofs.sketch.add_nexts.Given as goal

-- what the process gives is added, or the signal still has its tree and is left
abbrev pub invariant-loop-sig : goal.invariant-loop-sig
invariant-loop-sig l =
    (l.present.widths.items ≡ l.initial.present.widths.items)
    × (((x : ℕ) → is_some (present_of l.initial.present x) ≡ true → is_some (get nat_cmp l.assigned x) ≡ true)
    → ((x : ℕ) → is_some (present_of l.present x) ≡ true → is_some (lookup (is_at (nat_cmp x)) l.sig-iterator) ≡ true)
    × ((x : ℕ) → givers_in l.nexts x ++ given_by (present_of l.present x) (unwrap_or (get nat_cmp l.assigned x) 0) ≡ givers_in l.initial.nexts x ++ given_by (present_of l.initial.present x) (unwrap_or (get nat_cmp l.assigned x) 0))
    × ((x : ℕ) → option_or (clock_at l.nexts x) (option_map (λ id. l.clock) (present_of l.present x)) ≡ option_or (clock_at l.initial.nexts x) (option_map (λ id. l.clock) (present_of l.initial.present x))))
