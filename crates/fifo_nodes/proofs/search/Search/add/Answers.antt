-- One term more is found.
use Rattle.std.proofs.Common.{refl}
use Rattle.cofactor.proofs.Places.{if_ok}
use Rattle.fifo_nodes.proofs.Searches.{covers_from, covers_term}
use Rattle.fifo_nodes.proofs.search.Search.add.Goals as goal

pub returns : goal.returns
returns c = if_ok c.push.result
    (λ t h n net is. covers_from net.graph n _ _ _ _ c.self.view_is (covers_term net.graph n _ _ c.args.term refl refl h is))
    c.push.ensures.pushed
