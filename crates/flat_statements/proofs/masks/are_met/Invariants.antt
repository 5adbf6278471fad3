use Rattle.std.specs.Prelude.{drop}
use Rattle.flat_statements.specs.Masks.{AreRight}
use Rattle.flat_statements.proofs.MetLabels.{MetSoFar}
use Rattle.flat_statements.proofs.masks.are_met.Given as goal

abbrev pub invariant-loop-label : goal.invariant-loop-label
invariant-loop-label l = AreRight l.size l.subject l.labels → MetSoFar l.size l.subject l.labels (drop l.label-index l.labels) l.met.items
