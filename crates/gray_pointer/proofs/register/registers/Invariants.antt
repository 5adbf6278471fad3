-- All are those found and those of the registers to come.
use Rattle.std.proofs.Common.{◌≡◌, ◌++◌, drop}
use Rattle.gray_pointer.specs.Registers.{registers_among}
use Rattle.gray_pointer.proofs.register.registers.Given as goal

abbrev pub invariant-loop-reg : goal.invariant-loop-reg
invariant-loop-reg l = registers_among l.net l.domains l.net.regs ≡ l.registers.items ++ registers_among l.net l.domains (drop l.reg-index l.reg-items)
