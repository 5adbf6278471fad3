use Rattle.std.proofs.Common.{◌≡◌, ◌++◌, drop}
use Rattle.domains.specs.Clocks.{static_signals}
use Rattle.domains.proofs.assignment.statics.Given as goal

abbrev pub invariant-loop-sig : goal.invariant-loop-sig
invariant-loop-sig l = static_signals 0 l.roles ≡ l.statics ++ static_signals l.sig (drop l.sig l.roles)
