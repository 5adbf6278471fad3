use Rattle.reset_nets.proofs.Designs.{one_list}
use Rattle.reset_nets.proofs.nets_are_one.Goals as goal

pub returns : goal.returns
returns c = one_list
