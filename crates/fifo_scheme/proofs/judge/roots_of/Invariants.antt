-- The roots so far, and those to come.
use Rattle.std.proofs.Common.{◌≡◌, ◌++◌, drop}
use Rattle.cdc_model.specs.Nets.{AreAscending}
use Rattle.fifo_scheme.specs.Met.{roots_at}
use Rattle.fifo_scheme.proofs.judge.roots_of.Given as goal

abbrev pub invariant-loop-bit : goal.invariant-loop-bit
invariant-loop-bit l = AreAscending l.net.regs → roots_at l.net l.bits ≡ l.roots ++ roots_at l.net (drop l.bit-index l.bits)
