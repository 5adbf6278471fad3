-- None have no terms.
use Rattle.fifo_nodes.proofs.Choices.{no_conditions}
use Rattle.fifo_nodes.proofs.takes.Conditions.none.Goals as goal

pub returns : goal.returns
returns c = λ g. no_conditions g c.new.result c.new-2.result c.new.ensures c.new-2.ensures
