-- The net's own table shows what the cube without fixings does.
use Rattle.cofactor.proofs.Places.{if_ok}
use Rattle.handshake.proofs.rings.Goals as goal

pub returns : goal.returns
returns c = record {
  exact = if_ok c.rings_with.result (λ rings exact is has fit all. exact is has fit (c.in_ok-plain.ensures is.graph) all) c.rings_with.ensures.exact;
}
