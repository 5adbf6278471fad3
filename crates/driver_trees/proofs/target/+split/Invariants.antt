use Rattle.std.proofs.Common.{◌≡◌, ◌≤◌, ℕ, true, List, map, drop, ◌++◌}
use Rattle.flat_form.specs.View.{target_of, targets_of}
use Rattle.flat_form.specs.Sizes.{target_kept, all_right}
use Rattle.flat_meaning.specs.Flat.{target_sizes}
use Rattle.flat_meaning.specs.Assigned.{Done, FitTargets}
use Rattle.flat_meaning.specs.Trees.{Selects}
use Rattle.driver_trees.specs.Drafts.{tree_in, width_at, AreDrafts, IsDraftOf}
use Rattle.driver_trees.specs.Growth.{Grows}
use Rattle.driver_trees.specs.Presents.{Sees, IsWithin}
use Rattle.driver_trees.specs.Shares.{Share, all_shares, ArePuts}
use Rattle.driver_trees.proofs.target.+split.Given as goal

-- the shares so far and those of what is left make all
abbrev pub invariant-split_all-loop-part : goal.invariant-split_all-loop-part
invariant-split_all-loop-part l =
    (wid : ℕ → ℕ) (look : Selects → Selects) (before : Selects → List Share) (done : Done) → AreDrafts wid l.initial.drafts → Sees wid l.initial.drafts l.present look
    → all_right (map (target_kept wid) l.parts) ≡ true → FitTargets wid (λ d. IsWithin wid) done (targets_of (map target_of l.parts))
    → IsDraftOf l.initial.drafts l.word (target_sizes wid (targets_of (map target_of l.parts))) → ArePuts wid l.initial.drafts l.initial.puts.items before
    → Grows wid l.initial.drafts l.drafts × (all_right (map (target_kept wid) (drop l.part-index l.parts)) ≡ true)
    × FitTargets wid (λ d. IsWithin wid) done (targets_of (map target_of (drop l.part-index l.parts)))
    × (l.low ≡ target_sizes wid (targets_of (map target_of (drop l.part-index l.parts))))
    × (l.low ≤ width_at l.initial.drafts l.word)
    × (so_far : Selects → List Share) × ArePuts wid l.drafts l.puts.items so_far
    × ((sel : Selects) → so_far sel ++ all_shares wid (look sel) (targets_of (map target_of (drop l.part-index l.parts))) (tree_in sel l.initial.drafts l.word)
    ≡ before sel ++ all_shares wid (look sel) (targets_of (map target_of l.parts)) (tree_in sel l.initial.drafts l.word))
