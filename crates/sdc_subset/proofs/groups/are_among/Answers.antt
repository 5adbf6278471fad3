use Rattle.std.proofs.Common.{◌∙◌, Bor, List, ℕ, map}
use Rattle.sdc_subset.proofs.Lookups.{among-same}
use Rattle.sdc_subset.proofs.groups.are_among.Goals as goal

pub returns : goal.returns
returns c = c.has_all.ensures
    ∙ among-same c.in_ok-set.set (map (λ (n : Bor (List ℕ)). n.now) c.args.others.now) c.in_ok-set.ensures (map (λ (n : Bor (List ℕ)). n.now) c.args.names.now)
