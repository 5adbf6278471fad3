use Rattle.std.proofs.Common.{ltb, ltb-true, ltb-false, rules, get_or}
use Rattle.std.specs.Cmp.Rules.{comparing}
use Rattle.std.proofs.lemmas.List.Sorted.{IsPartitionPoint-from_clause, IsPartitionedBy-ltb}
use Rattle.driver_trees.specs.declared.sketch.Piece.{Piece}
use Rattle.driver_loops.proofs.Meets.{by_signal}
use Rattle.driver_loops.proofs.links.first_piece.Goals as goal

pub returns-clause-exact : goal.returns-clause-exact
returns-clause-exact c = λ ordered.
    let ps = c.args.pieces.now in
    let at = IsPartitionPoint-from_clause (λ (p : Piece). ltb p.sig c.args.sig) _ _ c.partition_point.ensures.partitioned
    (IsPartitionedBy-ltb (λ (p : Piece). p.sig) ps c.args.sig (by_signal ps ordered)) (λ a r f k. search (comparing, rules)) in
    (λ k d low high. ltb-true (get_or ps k d).sig c.args.sig (at.0 k d low high), λ k d low high. ltb-false (get_or ps k d).sig c.args.sig (at.1 k d low high))
