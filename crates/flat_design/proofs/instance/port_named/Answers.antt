use Rattle.flat_design.proofs.Places.{place-named}
use Rattle.flat_design.proofs.instance.port_named.Goals as goal

pub returns : goal.returns
returns c = λ m h. place-named c.args.ports.now m h c.args.name.now c.get_index_of.result c.get_index_of.ensures.index c.get_index_of.ensures.found
