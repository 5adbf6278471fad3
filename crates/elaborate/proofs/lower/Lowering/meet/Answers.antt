use Rattle.std.proofs.Common.{◌≡◌, ◌<◌, ◌≤◌, ◌∙◌, List, Option, Some, sym, ap, subst, length, set}
use Rattle.cell_graph.specs.Cells.{Cells}
use Rattle.elaborate.specs.declared.lower.Tree.{Tree}
use Rattle.elaborate.specs.Lowered.{Knows}
use Rattle.elaborate.proofs.Vertices.{met-vertex}
use Rattle.elaborate.proofs.lower.Lowering.meet.Goals as goal

pub returns-clause-met : goal.returns-clause-met
returns-clause-met c = λ f sel can counted ends v old.
    let ds = c.args.sketch.now.drafts in let ps = c.args.sketch.now.pieces.items in
    let ts = c.args.self.now.trees.items in let new = c.keep.new.self.trees.items in
    let same : c.made_for.new.self.trees.items ≡ ts = ap (λ x. x.items) c.in_ok-tree.ensures.trees in
    subst (λ (g : Cells). Knows sel ds ps g new v) (sym c.keep.ensures.graph)
    (met-vertex sel ds ps c.args.self.now.graph c.made_for.new.self.graph c.in_ok-tree.ensures.grown ts new c.args.vertex c.in_ok-tree.tree counted
    (c.in_ok-tree.ensures.tree f sel can ends)
    (λ l. c.keep.ensures.kept (subst (λ (xs : List (Option Tree)). c.args.vertex < length xs) (sym same) l) ∙ ap (λ (xs : List (Option Tree)). set xs c.args.vertex (Some c.in_ok-tree.tree)) same)
    (λ l. c.keep.ensures.past (subst (λ (xs : List (Option Tree)). length xs ≤ c.args.vertex) (sym same) l) ∙ same) v old)
