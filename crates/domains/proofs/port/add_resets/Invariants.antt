use Rattle.std.proofs.Common.{◌≡◌, ◌++◌, take}
use Rattle.domains.specs.Tables.{pairs_of}
use Rattle.domains.specs.Ports.{reset_roles}
use Rattle.domains.proofs.port.add_resets.Given as goal

abbrev pub invariant-loop-reset : goal.invariant-loop-reset
invariant-loop-reset l = pairs_of l.roles.items ≡ pairs_of l.initial.roles.items ++ reset_roles (take l.reset-index l.resets)
