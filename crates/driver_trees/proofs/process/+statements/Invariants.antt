use Rattle.std.proofs.Common.{◌≡◌, ℕ, ◌≤◌, Bool, true, ◌||◌, List, ◌++◌, map, drop, length, All}
use Rattle.cell_graph.specs.Tree.{Tree}
use Rattle.flat_form.specs.declared.flat.FCaseItem.{FCaseItem}
use Rattle.flat_form.specs.View.{stmt_of, stmts_of, arm_of, items_of}
use Rattle.flat_form.specs.Sizes.{is_stmt_sized, list_true}
use Rattle.flat_meaning.specs.Flat.{Items, all_assign}
use Rattle.flat_meaning.specs.Assigned.{Done, FitStmts}
use Rattle.flat_meaning.specs.Trees.{Selects, Trees, after_all}
use Rattle.driver_trees.specs.Growth.{Grows}
use Rattle.driver_trees.specs.Presents.{IsWithin}
use Rattle.driver_trees.specs.Changes.{IsSame, Assigns, IsProcess, look_of}
use Rattle.driver_trees.specs.Statements.{IsItemRead, IsWord, IsRest}
use Rattle.driver_trees.proofs.process.+statements.Given as goal

-- what is done and what is left make the whole
abbrev pub invariant-run_all-loop-part : goal.invariant-run_all-loop-part
invariant-run_all-loop-part l =
    (wid : ℕ → ℕ) (target : ℕ → Bool) (ts : Selects → Trees) (done : Done) → IsProcess wid l.initial.drafts l.initial.present target ts
    → list_true wid (map (is_stmt_sized wid) l.parts) ≡ true → FitStmts wid (λ d. IsWithin wid) done (stmts_of (map stmt_of l.parts))
    → ((x : ℕ) → all_assign (stmts_of (map stmt_of l.parts)) x ≡ true → target x ≡ true)
    → Grows wid l.initial.drafts l.drafts × (list_true wid (map (is_stmt_sized wid) (drop l.part-index l.parts)) ≡ true)
    × (now : Done) × FitStmts wid (λ d. IsWithin wid) now (stmts_of (map stmt_of (drop l.part-index l.parts)))
    × (assigned : ℕ → Bool) × Assigns l.initial.present l.present assigned
    × ((x : ℕ) → (assigned x || all_assign (stmts_of (map stmt_of (drop l.part-index l.parts))) x) ≡ all_assign (stmts_of (map stmt_of l.parts)) x)
    × (us : Selects → Trees) × IsProcess wid l.drafts l.present target us
    × ((sel : Selects) → after_all wid (look_of wid l.initial.present.blocking target sel) (stmts_of (map stmt_of (drop l.part-index l.parts))) (us sel)
    ≡ after_all wid (look_of wid l.initial.present.blocking target sel) (stmts_of (map stmt_of l.parts)) (ts sel))

abbrev pub decreases-items_changes-loop-item : goal.decreases-items_changes-loop-item
decreases-items_changes-loop-item l = length l.left

-- what is done stands behind what is left
abbrev pub invariant-items_changes-loop-item : goal.invariant-items_changes-loop-item
invariant-items_changes-loop-item l =
    (done : List FCaseItem) × (l.items ≡ l.left ++ done)
    × ((wid : ℕ → ℕ) (target : ℕ → Bool) (full : Bool) (t : Selects → Tree) (ts : Selects → Trees) (behind : Items) → IsProcess wid l.initial.drafts l.initial.present target ts
    → All (IsItemRead wid target l.size) l.items → IsWord l.initial.drafts l.word l.size t → l.size ≤ 64 → IsRest wid l.initial.drafts l.initial.present target full l.size t ts behind l.initial.rest
    → Grows wid l.initial.drafts l.drafts × IsSame l.initial.present l.present × IsRest wid l.drafts l.present target full l.size t ts (items_of (map arm_of done) behind) l.rest)
