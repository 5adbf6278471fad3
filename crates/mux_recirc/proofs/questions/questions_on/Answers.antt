-- The questions between the two places are those on the ring.
use Rattle.std.proofs.Common.{ltb, leb, rules}
use Rattle.std.specs.Cmp.Rules.{comparing}
use Rattle.std.proofs.lemmas.List.Sorted.{IsPartitionPoint-from_clause, IsPartitionedBy-ltb, IsPartitionedBy-leb}
use Rattle.mux_recirc.specs.declared.questions.Question.{Question}
use Rattle.mux_recirc.proofs.Cut.{between}
use Rattle.mux_recirc.proofs.Orders.{by_ring}
use Rattle.mux_recirc.proofs.questions.questions_on.Goals as goal

pub returns : goal.returns
returns c = λ sorted.
    let rise = by_ring c.args.questions.now sorted in
    let first = IsPartitionPoint-from_clause (λ (q : Question). ltb q.ring c.args.ring) _ _ c.partition_point-first.ensures.partitioned
    (IsPartitionedBy-ltb (λ (q : Question). q.ring) c.args.questions.now c.args.ring rise) (λ a r q k. search (comparing, rules)) in
    let last = IsPartitionPoint-from_clause (λ (q : Question). leb q.ring c.args.ring) _ _ c.partition_point-end.ensures.partitioned
    (IsPartitionedBy-leb (λ (q : Question). q.ring) c.args.questions.now c.args.ring rise) (λ a r q k. search (comparing, rules)) in
    between (λ (q : Question). q.ring) c.args.ring c.args.questions.now c.partition_point-first.result c.partition_point-end.result c.partition_point-first.ensures.bound
    c.partition_point-end.ensures.bound first last c.get.result _ c.unwrap_or.result c.get.ensures.lookup c.unwrap_or.ensures
