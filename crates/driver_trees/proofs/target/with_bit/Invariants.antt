use Rattle.std.proofs.Common.{◌≡◌, ℕ, ◌≤◌}
use Rattle.flat_meaning.specs.Trees.{Selects, picked}
use Rattle.driver_trees.specs.Drafts.{tree_in, AreDrafts, IsDraftOf}
use Rattle.driver_trees.specs.Growth.{Grows, IsOptionalDraft, optional_bits, optional_tree}
use Rattle.driver_trees.proofs.target.with_bit.Given as goal

-- the lowest bits are done
abbrev pub invariant-loop-at : goal.invariant-loop-at
invariant-loop-at l =
    (wid : ℕ → ℕ) (n m : ℕ) → AreDrafts wid l.initial.drafts → IsDraftOf l.initial.drafts l.old n → 1 ≤ n → n ≤ 64 → IsDraftOf l.initial.drafts l.index m → 1 ≤ m → m ≤ 64
    → IsDraftOf l.initial.drafts l.bit 1
    → Grows wid l.initial.drafts l.drafts × IsOptionalDraft l.drafts l.word × (optional_bits l.drafts l.word ≡ l.at)
    × ((sel : Selects) → optional_tree sel l.drafts l.word ≡ picked (tree_in sel l.initial.drafts l.index) m (tree_in sel l.initial.drafts l.bit) (tree_in sel l.initial.drafts l.old) l.at)
    × (l.at-end ≡ n)
