use Rattle.flat_drivers.specs.Driving.{design_of}
use Rattle.flat_drivers.proofs.Reading.{all-read}
use Rattle.flat_drivers.proofs.reads.reads_of.Goals as goal

pub returns : goal.returns
returns c =
    let f = design_of c.args.signals.now c.args.assigns.now c.args.combs.now c.args.clocked.now in
    all-read f c.new-reads.result c.add_all_assign_reads.new.reads c.add_wires_reads.new.reads c.add_clocked_reads.new.reads c.new-reads.ensures.none c.in_ok-add_all_assign_reads.ensures c.in_ok-add_wires_reads.ensures c.in_ok-add_clocked_reads.ensures
