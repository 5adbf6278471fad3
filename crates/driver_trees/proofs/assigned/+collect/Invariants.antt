use Rattle.std.proofs.Common.{◌≡◌, ℕ, map, drop}
use Rattle.flat_form.specs.View.{stmt_of, stmts_of, arm_of, items_of}
use Rattle.flat_meaning.specs.Flat.{no_items, all_assign, case_assigns}
use Rattle.flat_meaning.specs.Assigned.{any_may_assign, may_assign_in}
use Rattle.driver_trees.specs.Presents.{width_in}
use Rattle.driver_trees.specs.Collected.{AddsSome}
use Rattle.driver_trees.proofs.assigned.+collect.Given as goal

abbrev pub invariant-collect_all-loop-part : goal.invariant-collect_all-loop-part
invariant-collect_all-loop-part l =
    (wid : ℕ → ℕ) → ((s : ℕ) → width_in l.present s ≡ wid s)
    → AddsSome l.initial.assigned l.assigned (all_assign (stmts_of (map stmt_of (drop l.part-index l.parts)))) (all_assign (stmts_of (map stmt_of l.parts)))
    (any_may_assign wid (stmts_of (map stmt_of (drop l.part-index l.parts)))) (any_may_assign wid (stmts_of (map stmt_of l.parts)))

abbrev pub invariant-collect_items-loop-item : goal.invariant-collect_items-loop-item
invariant-collect_items-loop-item l =
    (wid : ℕ → ℕ) → ((s : ℕ) → width_in l.present s ≡ wid s)
    → AddsSome l.initial.assigned l.assigned (case_assigns (items_of (map arm_of (drop l.item-index l.items)) no_items)) (case_assigns (items_of (map arm_of l.items) no_items))
    (may_assign_in wid (items_of (map arm_of (drop l.item-index l.items)) no_items)) (may_assign_in wid (items_of (map arm_of l.items) no_items))
