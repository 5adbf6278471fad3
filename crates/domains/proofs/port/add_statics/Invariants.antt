use Rattle.std.proofs.Common.{◌≡◌, ◌++◌, take}
use Rattle.domains.specs.Tables.{pairs_of}
use Rattle.domains.specs.Ports.{static_roles}
use Rattle.domains.proofs.port.add_statics.Given as goal

abbrev pub invariant-loop-name : goal.invariant-loop-name
invariant-loop-name l = pairs_of l.roles.items ≡ pairs_of l.initial.roles.items ++ static_roles (take l.name-index l.statics)
