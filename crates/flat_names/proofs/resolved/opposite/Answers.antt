use Rattle.flat_names.proofs.Options.{ok-map}
use Rattle.flat_names.proofs.Over.{makes-opposite}
use Rattle.flat_names.proofs.resolved.opposite.Goals as goal

pub returns : goal.returns
returns c = ok-map c.binary_expr.result (makes-opposite c.args.a c.width_of.result c.width_of.ensures.kept) c.binary_expr.ensures
