use Rattle.std.proofs.Common.{ℕ, ◌≤◌, drop, map}
use Rattle.cell_graph.specs.Tree.{Tree}
use Rattle.flat_form.specs.View.{expr_of, exprs_of}
use Rattle.flat_meaning.specs.Flat.{largest}
use Rattle.flat_meaning.specs.Trees.{Selects}
use Rattle.driver_trees.specs.Drafts.{AreDrafts}
use Rattle.driver_trees.specs.Presents.{Sees, AreRead}
use Rattle.driver_trees.specs.Statements.{IsWord}
use Rattle.driver_trees.proofs.Cases.{IsCompared}
use Rattle.driver_trees.proofs.process.condition.Given as goal

abbrev pub invariant-loop-label : goal.invariant-loop-label
invariant-loop-label l = (wid : ℕ → ℕ) (look : Selects → Selects) (t : Selects → Tree) → AreDrafts wid l.fn.drafts → Sees wid l.fn.drafts l.fn.present look → AreRead wid l.fn.labels
    → largest (exprs_of (map expr_of l.fn.labels)) ≤ l.fn.size → l.fn.size ≤ 64 → IsWord l.fn.drafts l.fn.word l.fn.size t
    → IsCompared wid look l.fn.drafts l.drafts l.fn.size t l.fn.labels (drop l.label-index l.others) l.any
