use Rattle.flat_form.specs.Masks.{bits_in}
use Rattle.flat_form.proofs.MaskSets.{listed_bits, Left}
use Rattle.flat_form.proofs.masks.Masks.add_all.Given as goal

abbrev pub invariant-loop-sig : goal.invariant-loop-sig
invariant-loop-sig l = Left (bits_in l.initial.self) l.self (listed_bits l.sig-iterator) (listed_bits l.other.by_signal.entries)
