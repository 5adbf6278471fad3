use Rattle.std.proofs.Common.{ℕ, ◌*◌, ◌≤◌}
use Rattle.cell_graph.specs.declared.cell.CellId.{CellId}
use Rattle.driver_trees.specs.Drafts.{AreDrafts, IsDraftOf}
use Rattle.driver_trees.proofs.Copies.{AreCopies}
use Rattle.driver_trees.proofs.expr.repeated.Given as goal

abbrev pub invariant-loop : goal.invariant-loop
invariant-loop l = (wid : ℕ → ℕ) (m : ℕ) → AreDrafts wid l.initial.drafts → IsDraftOf l.initial.drafts l.fn.word m → 1 ≤ l.fn.count → l.fn.count * m ≤ 64
    → AreCopies wid l.initial.drafts l.drafts l.fn.word m l.fn.count l.counter l.copies
