use Rattle.flat_design.proofs.Libraries.{ReadSoFar}
use Rattle.flat_design.proofs.visit.Library.new.Given as goal

abbrev pub invariant-loop-number : goal.invariant-loop-number
invariant-loop-number l = ReadSoFar l.modules l.number l.by_name
