use Rattle.flat_meaning.specs.Design.{size_in}
use Rattle.flat_drivers.specs.Driving.{design_of}
use Rattle.flat_drivers.proofs.Counted.{all-counted}
use Rattle.flat_drivers.proofs.drivers.drivers_of.Goals as goal

pub returns : goal.returns
returns c =
    let f = design_of c.args.signals.now c.args.assigns.now c.args.combs.now c.args.clocked.now in
    all-counted f c.new-drivers.result c.add_assigns.new.drivers c.add_wires_processes.new.drivers c.add_clocked_processes.new.drivers (c.new-drivers.ensures (size_in f)) c.in_ok-add_assigns.ensures c.in_ok-add_wires_processes.ensures c.in_ok-add_clocked_processes.ensures
