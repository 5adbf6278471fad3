use Rattle.std.proofs.Common.{◌∙◌, sym}
use Rattle.elaborate.proofs.CellTrees.{met-has, not-none}
use Rattle.elaborate.proofs.lower.Lowering.operand.Goals as goal

pub returns-in-Some-clause-known : goal.returns-in-Some-clause-known
returns-in-Some-clause-known c = λ t w is. met-has c.args.self.now.graph c.args.self.now.trees.items c.args.id.0 t w c.in-Some.tree (sym c.tree.ensures.exact ∙ c.in-Some.is) is

pub returns-in-None-clause-known : goal.returns-in-None-clause-known
returns-in-None-clause-known c = λ t w is. absurd (not-none c.args.self.now.graph c.args.self.now.trees.items c.args.id.0 t w (sym c.tree.ensures.exact ∙ c.in-None.is) is)
