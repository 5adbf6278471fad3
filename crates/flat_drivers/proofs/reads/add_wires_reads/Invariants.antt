use Rattle.std.proofs.Common.{drop}
use Rattle.flat_meaning.specs.Design.{width_in}
use Rattle.flat_form.specs.Masks.{bits_in}
use Rattle.flat_form.proofs.MaskSets.{Left}
use Rattle.flat_drivers.specs.Driving.{wires_in, bodies_read}
use Rattle.flat_drivers.proofs.reads.add_wires_reads.Given as goal

abbrev pub invariant-loop-process : goal.invariant-loop-process
invariant-loop-process l = Left (bits_in l.initial.reads) l.reads (bodies_read (width_in l.signals) (wires_in (drop l.process-index l.combs))) (bodies_read (width_in l.signals) (wires_in l.combs))
