-- One lot more, and in the end all findings.
use Rattle.std.proofs.Common.{rules, ap, ◌≡◌, ◌∙◌, ◌++◌}
use Rattle.std.specs.List.{flat_map}
use Rattle.std.specs.Slice.Iter.{chunk_by_rest}
use Rattle.std.proofs.lemmas.List.Sorted.{answers_always}
use Rattle.obligations.specs.Lots.{lots_of}
use Rattle.obligations.specs.Words.{of_one_bit, v4_of}
use Rattle.obligations.proofs.Entering.{bits_found}
use Rattle.obligations.proofs.Lots.{one_lot, last_lot}
use Rattle.obligations.proofs.words.add_v4.Goals as goal

pub loop-lot-preserved : goal.loop-lot-preserved
loop-lot-preserved c = one_lot of_one_bit v4_of _ c.in-Some.lot.now _ _ _ _ c.in-Some.ensures.steps.0 c.in-Some.ensures.steps.1
    (c.in-Some.ensures.steps.2 of_one_bit (answers_always _ _ _ (λ f a r g h. search rules))).1 c.in_ok-add_bit.ensures c.loop-lot.invariant

pub returns : goal.returns
returns c = λ d t grays syncs rings loads is_extra are.
    let sorted : chunk_by_rest c.into_iter-lot-iterator.result ≡ c.in_ok-sorted.sorted.items = search rules in (
      flat_map v4_of (lots_of of_one_bit c.in_ok-sorted.sorted.items),
      last_lot of_one_bit v4_of _ _ _ c.in-None.ensures.steps.0 c.loop-lot.invariant ∙ ap (λ es. c.args.findings.now ++ flat_map v4_of (lots_of of_one_bit es)) sorted,
      bits_found d t grays syncs rings loads is_extra c.args.entries.now c.in_ok-sorted.sorted.items are c.in_ok-sorted.ensures,
    )
