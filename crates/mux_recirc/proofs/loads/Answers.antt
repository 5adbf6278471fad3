-- By the guards that are found with the net's own table.
use Rattle.cofactor.proofs.Places.{if_ok}
use Rattle.mux_recirc.proofs.loads.Goals as goal

pub returns : goal.returns
returns c = record {
  exact = if_ok c.loads.result
      (λ loads exact grays list given. exact c.args.net.now c.args.domains.now grays list (c.in_ok-guards.ensures.shown grays list given (c.in_ok-plain.ensures given.is_net.graph)))
      c.loads.ensures.exact;
}
