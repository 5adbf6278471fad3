use Rattle.std.proofs.Common.{refl}
use Rattle.verilog_reading.specs.SourceTree.{module_of}
use Rattle.flat_unfolding.specs.Instances.{connected}
use Rattle.flat_unfolding.specs.Unfolding.{header_values}
use Rattle.flat_design.proofs.Fits.{names-fit}
use Rattle.flat_design.proofs.Connected.{connected-fit}
use Rattle.flat_design.proofs.Entering.{enters-alike}
use Rattle.flat_design.proofs.visit.enter_module.Goals as goal

pub returns-clause-exact : goal.returns-clause-exact
returns-clause-exact c = λ pins m s links at formed shows fit joined.
    enters-alike pins c.args.number c.args.names c.args.ends.2 c.args.visit.now (header_values (module_of m) (connected links s)) (record c.args.visit.now { design = c.add_connections.new.design }) c.open_module.result c.open_module.new.visit refl refl
    (c.open_module.ensures.exact pins m (connected links s) at formed
    (record { names = shows.names; design = c.in_ok-add_connections.ensures pins s.names s.design links shows.names shows.design (names-fit s fit) joined }) (connected-fit links s fit))
