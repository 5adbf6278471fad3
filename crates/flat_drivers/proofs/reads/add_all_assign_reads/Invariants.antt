use Rattle.std.proofs.Common.{drop}
use Rattle.flat_meaning.specs.Design.{width_in}
use Rattle.flat_form.specs.Masks.{bits_in}
use Rattle.flat_form.proofs.MaskSets.{Left}
use Rattle.flat_drivers.specs.Driving.{assigned_in, assigns_read}
use Rattle.flat_drivers.proofs.reads.add_all_assign_reads.Given as goal

abbrev pub invariant-loop-assign : goal.invariant-loop-assign
invariant-loop-assign l = Left (bits_in l.initial.reads) l.reads (assigns_read (width_in l.signals) (assigned_in (drop l.assign-index l.assigns))) (assigns_read (width_in l.signals) (assigned_in l.assigns))
