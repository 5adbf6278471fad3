-- The crossings between the two places lead to the bit, and no others.
use Rattle.std.proofs.Common.{ltb, leb, rules}
use Rattle.std.specs.Cmp.Rules.{comparing}
use Rattle.std.proofs.lemmas.List.Sorted.{IsPartitionPoint-from_clause}
use Rattle.cdc_base.specs.contracts.bit.BitOrd.TheImpl as bit_order
use Rattle.cdc_model.specs.declared.scheme.Crossing.{Crossing}
use Rattle.mux_recirc.proofs.Cut.{index, below_first, upto_last, leads_there}
use Rattle.mux_recirc.proofs.Orders.{bit_total}
use Rattle.mux_recirc.proofs.blind.crossings_into.Goals as goal

pub returns-clause-exact : goal.returns-clause-exact
returns-clause-exact c = λ sorted.
    let n = index bit_order.ghosts.cmp bit_total (λ (k : Crossing). k.to) c.args.to in
    let first = IsPartitionPoint-from_clause (λ (k : Crossing). ltb (n k) 1) _ _ c.partition_point-start.ensures.partitioned
    (below_first bit_order.ghosts.cmp bit_total (λ (k : Crossing). k.to) c.args.to c.args.crossings.now sorted) (λ a r q k. search (comparing, rules)) in
    let last = IsPartitionPoint-from_clause (λ (k : Crossing). leb (n k) 1) _ _ c.partition_point-end.ensures.partitioned
    (upto_last bit_order.ghosts.cmp bit_total (λ (k : Crossing). k.to) c.args.to c.args.crossings.now sorted) (λ a r q k. search (comparing, rules)) in
    leads_there c.args.crossings.now c.args.to c.partition_point-start.result c.partition_point-end.result first last
