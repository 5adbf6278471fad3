use Rattle.instance_laws.proofs.Placed.{instances_are_modules}
use Rattle.instance_laws.proofs.instances_are_modules.Goals as goal

pub returns : goal.returns
returns c = instances_are_modules
