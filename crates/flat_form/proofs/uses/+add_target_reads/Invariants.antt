use Rattle.std.proofs.Common.{map, drop}
use Rattle.flat_meaning.specs.Design.{width_in}
use Rattle.flat_form.specs.View.{target_of, targets_of}
use Rattle.flat_form.specs.Masks.{bits_in}
use Rattle.flat_form.specs.Uses.{targets_read}
use Rattle.flat_form.proofs.MaskSets.{Left}
use Rattle.flat_form.proofs.uses.+add_target_reads.Given as goal

abbrev pub invariant-add_target_reads_of-loop-target : goal.invariant-add_target_reads_of-loop-target
invariant-add_target_reads_of-loop-target l = Left (bits_in l.initial.reads) l.reads (targets_read (width_in l.signals) (targets_of (map target_of (drop l.target-index l.targets)))) (targets_read (width_in l.signals) (targets_of (map target_of l.targets)))
