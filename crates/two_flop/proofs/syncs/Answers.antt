-- The net's own table shows what the cube without fixings does.
use Rattle.cofactor.proofs.Places.{if_ok}
use Rattle.two_flop.proofs.syncs.Goals as goal

pub returns : goal.returns
returns c = record {
  exact = if_ok c.syncs_with.result (λ ss exact is has all. exact is has (c.in_ok-plain.ensures is.graph) all) c.syncs_with.ensures.exact;
}
