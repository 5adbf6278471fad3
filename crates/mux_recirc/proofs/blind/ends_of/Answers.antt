-- The order changes nothing of what is there.
use Rattle.std.proofs.Common.{subst, Contains, ◌↔◌}
use Rattle.mux_recirc.proofs.blind.ends_of.Goals as goal

pub returns : goal.returns
returns c = λ b. subst (λ bs. Contains c.in_order.result.items b ↔ Contains bs b) c.in_ok-ends.ensures (c.in_order.ensures.same b)
