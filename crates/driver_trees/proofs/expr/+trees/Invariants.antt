use Rattle.std.proofs.Common.{◌≡◌, ℕ, ◌≤◌, true, drop, map}
use Rattle.flat_form.specs.declared.flat.FExpr.{size-FExpr}
use Rattle.flat_form.specs.View.{binary_of, expr_of, exprs_of}
use Rattle.flat_meaning.specs.Flat.{largest, size}
use Rattle.flat_meaning.specs.Fits.{is_gate}
use Rattle.flat_meaning.specs.Trees.{Selects}
use Rattle.driver_trees.specs.Drafts.{AreDrafts}
use Rattle.driver_trees.specs.Presents.{Sees, IsRead, AreRead}
use Rattle.driver_trees.proofs.Walked.{IsWalked}
use Rattle.driver_trees.proofs.Parts.{IsPartly, IsFolded}
use Rattle.driver_trees.proofs.expr.+trees.Given as goal

abbrev pub invariant-tree-loop-inner : goal.invariant-tree-loop-inner
invariant-tree-loop-inner l = (size-FExpr l.inner ≤ size-FExpr l.e)
    × ((wid : ℕ → ℕ) (look : Selects → Selects) → AreDrafts wid l.initial.drafts → Sees wid l.initial.drafts l.present look → IsRead wid l.e → size (expr_of l.e) ≤ l.width → l.width ≤ 64
    → IsWalked wid look l.initial.drafts l.drafts l.width l.e l.inner l.around.items)

abbrev pub invariant-join-loop-part : goal.invariant-join-loop-part
invariant-join-loop-part l = (wid : ℕ → ℕ) (look : Selects → Selects) → AreDrafts wid l.fn.drafts → Sees wid l.fn.drafts l.fn.present look → AreRead wid l.fn.parts
    → IsPartly wid look l.fn.drafts l.drafts l.fn.parts (drop l.part-index l.fn.parts) l.words.items

abbrev pub invariant-gate-loop-input : goal.invariant-gate-loop-input
invariant-gate-loop-input l = (wid : ℕ → ℕ) (look : Selects → Selects) → AreDrafts wid l.fn.drafts → Sees wid l.fn.drafts l.fn.present look → AreRead wid l.fn.inputs
    → is_gate (binary_of l.fn.op) ≡ true → largest (exprs_of (map expr_of l.fn.inputs)) ≤ l.fn.width → 1 ≤ l.fn.width → l.fn.width ≤ 64
    → IsFolded wid look l.fn.drafts l.drafts (binary_of l.fn.op) l.fn.width l.fn.inputs (drop l.input-index l.others) l.word
