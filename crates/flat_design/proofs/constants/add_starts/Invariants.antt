use Rattle.std.proofs.Common.{drop}
use Rattle.flat_design.proofs.StartValues.{IsAssignedSoFar}
use Rattle.flat_design.proofs.constants.add_starts.Given as goal

abbrev pub invariant-loop-sig : goal.invariant-loop-sig
invariant-loop-sig l = IsAssignedSoFar l.held l.entries (drop l.sig l.entries) l.sig l.initial.assigns.items l.assigns.items
