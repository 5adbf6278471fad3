use Rattle.std.proofs.Common.{◌≡◌, ◌++◌, take}
use Rattle.domains.specs.Tables.{pairs_of}
use Rattle.domains.specs.Ports.{input_roles}
use Rattle.domains.proofs.port.add_inputs.Given as goal

abbrev pub invariant-loop-input : goal.invariant-loop-input
invariant-loop-input l = pairs_of l.roles.items ≡ pairs_of l.initial.roles.items ++ input_roles (take l.input-index l.inputs)
