use Rattle.std.proofs.Common.{subst, Bor, List, ℕ, map, Option}
use Rattle.cdc_base.specs.declared.fault.Fault.{Fault}
use Rattle.clock_constraints.specs.Refusals.{Passes}
use Rattle.sdc_subset.proofs.Lookups.{unknown-same}
use Rattle.sdc_subset.proofs.pins.check_clocks.Goals as goal

pub returns : goal.returns
returns c = subst (λ (o : Option Fault). Passes c.check_known.result o)
    (unknown-same c.in_ok-known.known (map (λ (n : Bor (List ℕ)). n.now) c.args.names.now) c.in_ok-known.ensures c.args.mentions.now)
    c.check_known.ensures
