use Rattle.std.proofs.Common.{◌≡◌, ℕ, Bool, true, List, map, take, drop, All}
use Rattle.flat_meaning.specs.Trees.{Selects, Trees}
use Rattle.driver_trees.specs.Growth.{Grows}
use Rattle.driver_trees.specs.Changes.{Assigns, IsProcess}
use Rattle.driver_trees.specs.Shares.{Share, share_trees, has_share, put_share, IsPut, ArePuts}
use Rattle.driver_trees.proofs.target.assign_all.Given as goal

-- the words so far are assigned
abbrev pub invariant-loop-put : goal.invariant-loop-put
invariant-loop-put l =
    (wid : ℕ → ℕ) (target : ℕ → Bool) (ts : Selects → Trees) (ss : Selects → List Share) (sel₀ : Selects) → IsProcess wid l.initial.drafts l.initial.present target ts → ArePuts wid l.initial.drafts l.puts ss
    → ((x : ℕ) → has_share (ss sel₀) x ≡ true → target x ≡ true)
    → Grows wid l.initial.drafts l.drafts × Assigns l.initial.present l.present (has_share (map (put_share sel₀ l.initial.drafts) (take l.put-index l.puts)))
    × IsProcess wid l.drafts l.present target (λ sel. share_trees wid (map (put_share sel l.initial.drafts) (take l.put-index l.puts)) (ts sel))
