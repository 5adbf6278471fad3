use Rattle.std.proofs.Common.{false, drop}
use Rattle.flat_form.proofs.Listed.{Unlisted}
use Rattle.flat_drivers.proofs.Marked.{are_registers}
use Rattle.flat_drivers.proofs.registers.registers_of.Given as goal

abbrev pub invariant-loop-process : goal.invariant-loop-process
invariant-loop-process l = Unlisted (λ s. false) l.registers (are_registers (drop l.process-index l.clocked)) (are_registers l.clocked)
