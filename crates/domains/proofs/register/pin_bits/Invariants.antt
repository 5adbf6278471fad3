use Rattle.std.proofs.Common.{◌≡◌, ◌++◌, drop}
use Rattle.domains.specs.Clocks.{pin_bits}
use Rattle.domains.proofs.register.pin_bits.Given as goal

abbrev pub invariant-loop-sig : goal.invariant-loop-sig
invariant-loop-sig l = pin_bits 0 l.roles ≡ l.bits.items ++ pin_bits l.sig (drop l.sig l.roles)
