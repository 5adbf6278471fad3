-- By what a stable sort keeps.
use Rattle.std.proofs.Common.{rules, ap, sym, ◌∙◌}
use Rattle.std.proofs.lemmas.List.Sorted.{answers_always}
use Rattle.std.specs.Result.{is_ok}
use Rattle.handshake.proofs.Pairs.{when_ok}
use Rattle.obligations.specs.Arrivals.{of_one_group, group_key}
use Rattle.obligations.proofs.ReadArrivals.{of_one_group_is}
use Rattle.obligations.proofs.Sorts.{in_lots, last_before}
use Rattle.obligations.proofs.arrivals.by_group.Goals as goal

pub returns : goal.returns
returns c = in_lots group_key of_one_group of_one_group_is (λ r q. last_before r.group q.group) c.args.reads.items c.sort_by_key.new.self.items
    (when_ok c.sort_by_key.result (sym c.map_err.ensures.variant ∙ ap is_ok c.in_ok-map_err.was) c.sort_by_key.ensures.sorted (λ r. r.group) (answers_always _ _ _ (λ f a r g h. search rules)))
    (c.sort_by_key.ensures.stable (λ r. r.group) (answers_always _ _ _ (λ f a r g h. search rules)))
