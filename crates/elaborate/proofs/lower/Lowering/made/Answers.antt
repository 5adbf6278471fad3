use Rattle.std.proofs.Common.{subst, sym, length}
use Rattle.cell_graph.specs.Unfolded.{IsCellOf}
use Rattle.elaborate.specs.Lowered.{IsMadeOf, cell_met, over}
use Rattle.elaborate.proofs.CellTrees.{over-fits, over-made}
use Rattle.elaborate.proofs.lower.Lowering.made.Goals as goal

pub returns-clause-made : goal.returns-clause-made
returns-clause-made c = λ ds sel n w is known.
    let g = c.args.self.now.graph in let ts = c.args.self.now.trees.items in
    let fits = subst (IsCellOf g (length g.cells)) (sym c.over_trees.ensures) (over-fits g ts sel ds n w c.args.cell is known) in
    over-made g ts sel ds c.add.new.self.graph c.in_ok-tree.ensures.grown n w c.args.cell c.in_ok-tree.tree is known
    (subst (IsMadeOf c.add.new.self.graph c.in_ok-tree.tree.cell) c.over_trees.ensures (c.in_ok-tree.ensures.made fits))
