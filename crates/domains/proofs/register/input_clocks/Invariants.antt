use Rattle.std.proofs.Common.{◌≡◌, map, take}
use Rattle.domains.specs.Clocks.{input_clock}
use Rattle.domains.proofs.register.input_clocks.Given as goal

abbrev pub invariant-loop-role : goal.invariant-loop-role
invariant-loop-role l = l.clocks.items ≡ map input_clock (take l.role-index l.roles)
