-- All bits are those that are there and those of the registers to come.
use Rattle.std.proofs.Common.{◌≡◌, ◌++◌, drop}
use Rattle.cdc_model.specs.Nets.{bits_of_registers}
use Rattle.cdc_model.proofs.view.register_bits.Given as goal

abbrev pub invariant-loop-reg : goal.invariant-loop-reg
invariant-loop-reg l = bits_of_registers l.net.graph.signals l.net.regs ≡ l.bits ++ bits_of_registers l.net.graph.signals (drop l.reg-index l.reg-items)
