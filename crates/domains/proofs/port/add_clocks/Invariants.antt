use Rattle.std.proofs.Common.{◌≡◌, ◌++◌, drop}
use Rattle.domains.specs.Tables.{pairs_of}
use Rattle.domains.specs.Ports.{clock_roles}
use Rattle.domains.proofs.port.add_clocks.Given as goal

abbrev pub invariant-loop-place : goal.invariant-loop-place
invariant-loop-place l = pairs_of l.initial.roles.items ++ clock_roles 0 l.clocks ≡ pairs_of l.roles.items ++ clock_roles l.place (drop l.place l.clocks)
