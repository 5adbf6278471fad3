-- One lot more, and in the end all findings.
use Rattle.std.proofs.Common.{rules, ap, ◌≡◌, ◌∙◌, ◌++◌}
use Rattle.std.specs.List.{flat_map}
use Rattle.std.specs.Slice.Iter.{chunk_by_rest}
use Rattle.std.proofs.lemmas.List.Sorted.{answers_always}
use Rattle.obligations.specs.Lots.{lots_of}
use Rattle.obligations.specs.Arrivals.{of_one_group, v6_of}
use Rattle.obligations.specs.contracts.arrivals.FamilyPartialEq.TheImpl as families
use Rattle.obligations.proofs.Lots.{one_lot, last_lot}
use Rattle.obligations.proofs.arrivals.add_lots.Goals as goal

pub loop-lot-preserved : goal.loop-lot-preserved
loop-lot-preserved c = one_lot of_one_group (v6_of families.ghosts.eq c.args.to) _ c.in-Some.lot.now _ _ _ _ c.in-Some.ensures.steps.0 c.in-Some.ensures.steps.1
    (c.in-Some.ensures.steps.2 of_one_group (answers_always _ _ _ (λ f a r g h. search rules))).1 c.in_ok-add_lot.ensures c.loop-lot.invariant

pub returns : goal.returns
returns c =
    let reads : chunk_by_rest c.into_iter-lot-iterator.result ≡ c.args.reads.now = search rules in
    last_lot of_one_group (v6_of families.ghosts.eq c.args.to) _ _ _ c.in-None.ensures.steps.0 c.loop-lot.invariant
    ∙ ap (λ rs. c.args.findings.now ++ flat_map (v6_of families.ghosts.eq c.args.to) (lots_of of_one_group rs)) reads
