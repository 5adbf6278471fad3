use Rattle.std.proofs.Common.{◌≡◌, ℕ, map, drop}
use Rattle.flat_form.specs.View.{target_of, targets_of}
use Rattle.flat_meaning.specs.Flat.{are_targets}
use Rattle.flat_meaning.specs.Assigned.{reach}
use Rattle.driver_trees.specs.Presents.{width_in}
use Rattle.driver_trees.specs.Collected.{AddsSome}
use Rattle.driver_trees.proofs.assigned.+collect_target.Given as goal

abbrev pub invariant-collect_targets-loop-part : goal.invariant-collect_targets-loop-part
invariant-collect_targets-loop-part l =
    (wid : ℕ → ℕ) → ((s : ℕ) → width_in l.present s ≡ wid s)
    → AddsSome l.initial.assigned l.assigned (are_targets (targets_of (map target_of (drop l.part-index l.parts)))) (are_targets (targets_of (map target_of l.parts)))
    (reach wid (targets_of (map target_of (drop l.part-index l.parts)))) (reach wid (targets_of (map target_of l.parts)))
