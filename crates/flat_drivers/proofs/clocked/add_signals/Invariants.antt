use Rattle.std.proofs.Common.{nat_eq, drop}
use Rattle.std.specs.List.{IsDistinct}
use Rattle.flat_meaning.specs.Design.{width_in}
use Rattle.flat_form.specs.Masks.{bits_in}
use Rattle.flat_drivers.proofs.Sharing.{Remains}
use Rattle.flat_drivers.proofs.clocked.add_signals.Given as goal

abbrev pub invariant-loop-sig : goal.invariant-loop-sig
invariant-loop-sig l = IsDistinct nat_eq l.assigned → Remains (width_in l.signals) l.edges (bits_in l.may) (drop l.sig-index l.assigned) l.assigned l.initial.bits l.bits
