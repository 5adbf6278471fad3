use Rattle.flat_names.proofs.Selected.{equals-number}
use Rattle.flat_names.proofs.select.is_index.Goals as goal

pub returns : goal.returns
returns c = λ s i. equals-number c.in_ok-index.index c.args.index.now c.in_ok-equal.equal c.from.result c.args.n c.width_of.result c.in_ok-index.ensures c.from.ensures c.width_of.ensures.kept s i c.in_ok-equal.ensures
