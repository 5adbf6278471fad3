use Rattle.std.proofs.Common.{drop}
use Rattle.flat_unfolding.specs.Names.{Look}
use Rattle.flat_unfolding.specs.Formed.{AreFormed}
use Rattle.flat_names.specs.Looks.{Shows, IsFit}
use Rattle.flat_names.proofs.Written.{trees, IsPartly}
use Rattle.flat_names.proofs.expr.+resolve.Given as goal

abbrev pub invariant-parts_of-loop-expr : goal.invariant-parts_of-loop-expr
invariant-parts_of-loop-expr l = (k : Look) → Shows l.look k → IsFit k → AreFormed (trees l.exprs) → IsPartly k l.exprs (drop l.expr-index l.exprs) l.fn.faults l.faults l.parts
