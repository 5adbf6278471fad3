-- The parts between the two places are those of the bit.
use Rattle.std.proofs.Common.{◌∙◌, ltb, leb, rules}
use Rattle.std.specs.Cmp.Rules.{comparing}
use Rattle.std.proofs.lemmas.List.Sorted.{IsPartitionPoint-from_clause}
use Rattle.cdc_base.specs.contracts.bit.BitOrd.TheImpl as bit_order
use Rattle.mux_recirc.specs.declared.parts.Part.{Part}
use Rattle.mux_recirc.proofs.Cut.{index, below_first, upto_last, between, of_bit}
use Rattle.mux_recirc.proofs.Orders.{by_bit, bit_total}
use Rattle.mux_recirc.proofs.parts.parts_at.Goals as goal

pub returns : goal.returns
returns c = λ sorted.
    let n = index bit_order.ghosts.cmp bit_total (λ (p : Part). p.bit) c.args.bit in
    let first = IsPartitionPoint-from_clause (λ (p : Part). ltb (n p) 1) _ _ c.partition_point-first.ensures.partitioned
    (below_first bit_order.ghosts.cmp bit_total (λ (p : Part). p.bit) c.args.bit c.args.parts.now (by_bit c.args.parts.now sorted)) (λ a r q k. search (comparing, rules)) in
    let last = IsPartitionPoint-from_clause (λ (p : Part). leb (n p) 1) _ _ c.partition_point-end.ensures.partitioned
    (upto_last bit_order.ghosts.cmp bit_total (λ (p : Part). p.bit) c.args.bit c.args.parts.now (by_bit c.args.parts.now sorted)) (λ a r q k. search (comparing, rules)) in
    between n 1 c.args.parts.now c.partition_point-first.result c.partition_point-end.result c.partition_point-first.ensures.bound c.partition_point-end.ensures.bound
    first last c.get.result _ c.unwrap_or.result c.get.ensures.lookup c.unwrap_or.ensures
    ∙ of_bit c.args.parts.now c.args.bit
