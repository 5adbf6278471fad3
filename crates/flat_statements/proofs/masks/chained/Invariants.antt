use Rattle.std.proofs.Common.{List, length}
use Rattle.flat_unfolding.specs.Expressions.{Term}
use Rattle.flat_unfolding.specs.Statements.{Way, Done}
use Rattle.flat_names.specs.Pieces.{IsRead}
use Rattle.flat_statements.specs.Statements.{IsDone}
use Rattle.flat_statements.specs.Masks.{AreWays}
use Rattle.flat_statements.proofs.Chains.{ChainSoFar}
use Rattle.flat_statements.proofs.masks.chained.Given as goal

abbrev pub invariant-loop-labels : goal.invariant-loop-labels
invariant-loop-labels l = (t : Term) (ws : List Way) (d : Done) → IsRead t l.subject → AreWays ws l.initial.items.items → IsDone d l.initial.chain → ChainSoFar t ws d l.size l.items.items l.chain

abbrev pub decreases-loop-labels : goal.decreases-loop-labels
decreases-loop-labels l = length l.items.items
