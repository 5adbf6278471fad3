-- The rings between the two places are those that join the groups.
use Rattle.std.proofs.Common.{◌∙◌, ltb, leb, rules}
use Rattle.std.specs.Cmp.Rules.{comparing}
use Rattle.std.proofs.lemmas.List.Sorted.{IsPartitionPoint-from_clause}
use Rattle.mux_recirc.specs.contracts.guards.SidesOrd.TheImpl as sides_order
use Rattle.mux_recirc.specs.declared.guards.Joint.{Joint}
use Rattle.mux_recirc.proofs.Cut.{index, below_first, upto_last, between, of_sides}
use Rattle.mux_recirc.proofs.Orders.{by_sides, sides_total}
use Rattle.mux_recirc.proofs.guards.with_sides.Goals as goal

pub returns : goal.returns
returns c = λ sorted.
    let n = index sides_order.ghosts.cmp sides_total (λ (p : Joint). p.sides) c.args.sides in
    let first = IsPartitionPoint-from_clause (λ (p : Joint). ltb (n p) 1) _ _ c.partition_point-first.ensures.partitioned
    (below_first sides_order.ghosts.cmp sides_total (λ (p : Joint). p.sides) c.args.sides c.args.joints.now (by_sides c.args.joints.now sorted)) (λ a r q k. search (comparing, rules)) in
    let last = IsPartitionPoint-from_clause (λ (p : Joint). leb (n p) 1) _ _ c.partition_point-end.ensures.partitioned
    (upto_last sides_order.ghosts.cmp sides_total (λ (p : Joint). p.sides) c.args.sides c.args.joints.now (by_sides c.args.joints.now sorted)) (λ a r q k. search (comparing, rules)) in
    between n 1 c.args.joints.now c.partition_point-first.result c.partition_point-end.result c.partition_point-first.ensures.bound c.partition_point-end.ensures.bound
    first last c.get.result _ c.unwrap_or.result c.get.ensures.lookup c.unwrap_or.ensures
    ∙ of_sides c.args.joints.now c.args.sides
