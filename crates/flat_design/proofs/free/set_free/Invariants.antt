use Rattle.flat_design.proofs.FreeSignals.{IsFreeSoFar}
use Rattle.flat_design.proofs.free.set_free.Given as goal

abbrev pub invariant-loop-sig : goal.invariant-loop-sig
invariant-loop-sig l = IsFreeSoFar l.names l.driven l.sig l.initial.signals.items l.signals.items
