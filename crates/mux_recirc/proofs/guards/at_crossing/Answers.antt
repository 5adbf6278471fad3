-- The blindnesses between the two places are those of the crossing.
use Rattle.std.proofs.Common.{ltb, leb, rules}
use Rattle.std.specs.Cmp.Rules.{comparing}
use Rattle.std.proofs.lemmas.List.Sorted.{IsPartitionPoint-from_clause, IsPartitionedBy-ltb, IsPartitionedBy-leb}
use Rattle.mux_recirc.specs.declared.blind.Blind.{Blind}
use Rattle.mux_recirc.proofs.Cut.{between}
use Rattle.mux_recirc.proofs.Orders.{by_crossing}
use Rattle.mux_recirc.proofs.guards.at_crossing.Goals as goal

pub returns : goal.returns
returns c = λ sorted.
    let rise = by_crossing c.args.blind.now sorted in
    let first = IsPartitionPoint-from_clause (λ (q : Blind). ltb q.crossing c.args.crossing) _ _ c.partition_point-first.ensures.partitioned
    (IsPartitionedBy-ltb (λ (q : Blind). q.crossing) c.args.blind.now c.args.crossing rise) (λ a r q k. search (comparing, rules)) in
    let last = IsPartitionPoint-from_clause (λ (q : Blind). leb q.crossing c.args.crossing) _ _ c.partition_point-end.ensures.partitioned
    (IsPartitionedBy-leb (λ (q : Blind). q.crossing) c.args.blind.now c.args.crossing rise) (λ a r q k. search (comparing, rules)) in
    between (λ (q : Blind). q.crossing) c.args.crossing c.args.blind.now c.partition_point-first.result c.partition_point-end.result c.partition_point-first.ensures.bound
    c.partition_point-end.ensures.bound first last c.get.result _ c.unwrap_or.result c.get.ensures.lookup c.unwrap_or.ensures
