use Rattle.std.specs.Prelude.{drop}
use Rattle.flat_statements.proofs.Tests.{TestSoFar}
use Rattle.flat_statements.proofs.masks.item_test.Given as goal

abbrev pub invariant-loop-label : goal.invariant-loop-label
invariant-loop-label l = TestSoFar l.size l.subject l.labels (drop l.label-index l.others) l.test
