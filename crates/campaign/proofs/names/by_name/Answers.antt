use Rattle.std.proofs.Common.{rules, of_calls}
use Rattle.std.specs.Ordering.{nat_cmp, is_lt}
use Rattle.std.specs.Cmp.Lexicographic.{slice_cmp, nat_list_cmp_total}
use Rattle.std.proofs.lemmas.Fn.{always_returns_same}
use Rattle.std.proofs.lemmas.List.MinMax.{ranks_by}
use Rattle.campaign.specs.Names.{name_of}
use Rattle.campaign.proofs.names.by_name.Goals as goal

pub returns-clause-sorted : goal.returns-clause-sorted
returns-clause-sorted c =
    c.sort_unstable_by.ensures.sorted (λ x y. is_lt (slice_cmp nat_cmp (name_of c.args.net.now.graph.signals x) (name_of c.args.net.now.graph.signals y)))
    (ranks_by nat_list_cmp_total (name_of c.args.net.now.graph.signals)) (always_returns_same _ _ _ (λ a r f k. search (rules, of_calls)))
