use Rattle.std.proofs.Common.{drop}
use Rattle.flat_meaning.specs.Design.{width_in}
use Rattle.flat_drivers.specs.Clocked.{processes_in}
use Rattle.flat_drivers.proofs.Sharing.{AreLeft}
use Rattle.flat_drivers.proofs.clocked.shared_bits.Given as goal

abbrev pub invariant-loop-number : goal.invariant-loop-number
invariant-loop-number l = AreLeft (width_in l.signals) l.bits (processes_in (drop l.number l.clocked) (drop l.number l.resets)) (processes_in l.clocked l.resets)
