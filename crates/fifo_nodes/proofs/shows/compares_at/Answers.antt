-- The one node is a bit of the code, where the other is apart.
use Rattle.cofactor.proofs.Places.{if_ok}
use Rattle.fifo_nodes.proofs.shows.compares_at.Goals as goal

pub returns : goal.returns
returns c = if_ok c.is_code_bit.result
    (λ t h plain shown code own came.
    let apart = c.is_apart.ensures plain came in
    let bit = h plain shown code own in
    (λ r. (bit.0 r, apart.0 c.if-not-is_apart.false), λ k. bit.1 k.0))
    c.is_code_bit.ensures
