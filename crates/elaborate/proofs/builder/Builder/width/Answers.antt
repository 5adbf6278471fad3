use Rattle.std.proofs.Common.{◌≤◌, sym, subst}
use Rattle.cell_graph.proofs.Grown.{cell-sized}
use Rattle.elaborate.proofs.builder.Builder.width.Goals as goal

pub returns-clause-word : goal.returns-clause-word
returns-clause-word c = subst (λ w. (1 ≤ w) × (w ≤ 64)) (sym c.width.ensures) (cell-sized c.self.inside.graph c.self.invariant.0 c.args.id)
