use Rattle.std.proofs.Common.{ℕ, ◌≤◌, map, take, drop}
use Rattle.std.specs.List.{AllByRecursion as Each}
use Rattle.flat_form.specs.declared.flat.FlatClocked.{FlatClocked}
use Rattle.flat_form.specs.View.{stmt_of}
use Rattle.driver_trees.specs.Drafts.{AreDrafts}
use Rattle.driver_trees.specs.Growth.{Grows}
use Rattle.driver_trees.specs.Statements.{IsStmtRead}
use Rattle.driver_trees.specs.Sketched.{IsIdle, AreNexts}
use Rattle.driver_trees.proofs.sketch.all_nexts.Given as goal

-- what the processes so far give, and the processes that are left
abbrev pub invariant-loop-process : goal.invariant-loop-process
invariant-loop-process l =
    (wid : ℕ → ℕ) → AreDrafts wid l.initial.drafts → IsIdle wid l.initial.present → Each (λ (p : FlatClocked). IsStmtRead wid p.body × (1 ≤ wid p.clock)) l.processes
    → Grows wid l.initial.drafts l.drafts × IsIdle wid l.present × Each (λ (p : FlatClocked). IsStmtRead wid p.body × (1 ≤ wid p.clock)) (drop l.process-index l.processes)
    × AreNexts wid l.drafts l.nexts (map (λ (p : FlatClocked). (p.clock, stmt_of p.body)) (take l.process-index l.processes))
