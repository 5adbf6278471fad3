use Rattle.flat_meaning.specs.Deps.{none}
use Rattle.flat_form.specs.Masks.{bits_in}
use Rattle.flat_form.proofs.MaskSets.{listed_bits, Left, kept_by}
use Rattle.flat_form.proofs.masks.Masks.common.Given as goal

abbrev pub invariant-loop-sig : goal.invariant-loop-sig
invariant-loop-sig l = Left none l.both (kept_by (bits_in l.other) (listed_bits l.sig-iterator)) (kept_by (bits_in l.other) (listed_bits l.self.by_signal.entries))
