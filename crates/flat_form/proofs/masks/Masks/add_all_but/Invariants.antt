use Rattle.std.proofs.Common.{not}
use Rattle.flat_form.specs.Masks.{bits_in}
use Rattle.flat_form.proofs.MaskSets.{listed_bits, Left, kept_by}
use Rattle.flat_form.proofs.masks.Masks.add_all_but.Given as goal

abbrev pub invariant-loop-sig : goal.invariant-loop-sig
invariant-loop-sig l = Left (bits_in l.initial.self) l.self (kept_by (λ s i. not (bits_in l.but s i)) (listed_bits l.sig-iterator)) (kept_by (λ s i. not (bits_in l.but s i)) (listed_bits l.other.by_signal.entries))
