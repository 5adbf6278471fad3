-- The order changes nothing of what is there.
use Rattle.std.proofs.Common.{subst, Contains, ◌↔◌}
use Rattle.mux_recirc.proofs.held.sources.Goals as goal

pub returns-clause-exact : goal.returns-clause-exact
returns-clause-exact c = λ is b. subst (λ bs. Contains c.in_order.result.items b ↔ Contains bs b) (c.in_ok-sources.ensures is) (c.in_order.ensures.same b)
