use Rattle.std.proofs.Common.{leb, leb-true, leb-false, rules, get_or}
use Rattle.std.specs.Cmp.Rules.{comparing}
use Rattle.std.proofs.lemmas.List.Sorted.{IsPartitionPoint-from_clause, IsPartitionedBy-leb}
use Rattle.driver_trees.specs.declared.sketch.Piece.{Piece}
use Rattle.driver_loops.proofs.Meets.{by_signal}
use Rattle.driver_loops.proofs.links.past_pieces.Goals as goal

pub returns-clause-exact : goal.returns-clause-exact
returns-clause-exact c = λ ordered.
    let ps = c.args.pieces.now in
    let at = IsPartitionPoint-from_clause (λ (p : Piece). leb p.sig c.args.sig) _ _ c.partition_point.ensures.partitioned
    (IsPartitionedBy-leb (λ (p : Piece). p.sig) ps c.args.sig (by_signal ps ordered)) (λ a r f k. search (comparing, rules)) in
    (λ k d low high. leb-true (get_or ps k d).sig c.args.sig (at.0 k d low high), λ k d low high. leb-false (get_or ps k d).sig c.args.sig (at.1 k d low high))
