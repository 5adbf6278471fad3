-- Between the first that doesn't come before the bit and the first behind it.
use Rattle.std.proofs.Common.{rules, ltb, leb}
use Rattle.std.specs.Cmp.Rules.{comparing}
use Rattle.std.proofs.lemmas.List.Sorted.{IsPartitionPoint-from_clause}
use Rattle.obligations.specs.declared.arrivals.Copying.{Copying}
use Rattle.obligations.proofs.Cut.{place, between, below_first, upto_last}
use Rattle.obligations.proofs.arrivals.copyings_of.Goals as goal

pub returns : goal.returns
returns c = λ up. between c.args.copyings.now c.args.bit c.partition_point-start.result c.partition_point-end.result c.partition_point-start.ensures.bound c.partition_point-end.ensures.bound
    (IsPartitionPoint-from_clause (λ (k : Copying). ltb (place c.args.bit k) 1) _ _ c.partition_point-start.ensures.partitioned (below_first c.args.copyings.now c.args.bit up)
    (λ a r q k. search (comparing, rules)))
    (IsPartitionPoint-from_clause (λ (k : Copying). leb (place c.args.bit k) 1) _ _ c.partition_point-end.ensures.partitioned (upto_last c.args.copyings.now c.args.bit up)
    (λ a r q k. search (comparing, rules)))
    c.get.result _ c.unwrap_or.result c.get.ensures.lookup c.unwrap_or.ensures
