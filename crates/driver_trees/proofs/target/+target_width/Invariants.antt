use Rattle.std.proofs.Common.{◌≡◌, ℕ, ◌+◌, map, true, drop}
use Rattle.flat_form.specs.Sizes.{target_kept, sum, all_right}
use Rattle.driver_trees.specs.Presents.{width_in}
use Rattle.driver_trees.proofs.target.+target_width.Given as goal

-- the width so far and what is left make the whole
abbrev pub invariant-loop-part : goal.invariant-loop-part
invariant-loop-part l =
    (wid : ℕ → ℕ) → ((s : ℕ) → width_in l.present s ≡ wid s) → (target_kept wid l.target).right ≡ true
    → (l.width + sum (map (target_kept wid) (drop l.part-index l.part-items)) ≡ (target_kept wid l.target).width)
    × (all_right (map (target_kept wid) (drop l.part-index l.part-items)) ≡ true)
