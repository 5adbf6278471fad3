use Rattle.std.proofs.Common.{nat_eq, drop}
use Rattle.std.specs.List.{IsDistinct}
use Rattle.flat_meaning.specs.Design.{width_in}
use Rattle.flat_form.specs.Masks.{bits_in}
use Rattle.flat_drivers.proofs.Counted.{Reached, driven_of, assigning_of}
use Rattle.flat_drivers.proofs.drivers.add_wires.Given as goal

abbrev pub invariant-loop-sig : goal.invariant-loop-sig
invariant-loop-sig l = IsDistinct nat_eq l.assigned → IsDistinct nat_eq (drop l.sig-index l.assigned)
    × Reached (width_in l.signals) l.initial.drivers l.drivers (driven_of (bits_in l.may) (drop l.sig-index l.assigned)) (driven_of (bits_in l.may) l.assigned) (assigning_of (drop l.sig-index l.assigned)) (assigning_of l.assigned)
