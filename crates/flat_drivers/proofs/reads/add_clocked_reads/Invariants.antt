use Rattle.std.proofs.Common.{drop}
use Rattle.flat_meaning.specs.Design.{width_in}
use Rattle.flat_form.specs.Masks.{bits_in}
use Rattle.flat_form.proofs.MaskSets.{Left}
use Rattle.flat_drivers.proofs.Reading.{clocked_read}
use Rattle.flat_drivers.proofs.reads.add_clocked_reads.Given as goal

abbrev pub invariant-loop-process : goal.invariant-loop-process
invariant-loop-process l = Left (bits_in l.initial.reads) l.reads (clocked_read (width_in l.signals) (drop l.process-index l.clocked)) (clocked_read (width_in l.signals) l.clocked)
