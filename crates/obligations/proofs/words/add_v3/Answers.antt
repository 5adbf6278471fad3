-- One lot more, and in the end all findings.
use Rattle.std.proofs.Common.{rules, ap, ◌≡◌, ◌∙◌, ◌++◌}
use Rattle.std.specs.List.{flat_map}
use Rattle.std.specs.Slice.Iter.{chunk_by_rest}
use Rattle.std.proofs.lemmas.List.Sorted.{answers_always}
use Rattle.obligations.specs.Given.{design_in, trees_in, syncs_in}
use Rattle.obligations.specs.Lots.{lots_of}
use Rattle.obligations.specs.Words.{of_one_word, v3_of}
use Rattle.obligations.proofs.Entering.{words_found}
use Rattle.obligations.proofs.Lots.{one_lot, last_lot}
use Rattle.obligations.proofs.words.add_v3.Goals as goal

pub loop-lot-preserved : goal.loop-lot-preserved
loop-lot-preserved c = λ up. one_lot of_one_word (v3_of c.args.found.now.grays.now) _ c.in-Some.lot.now _ _ _ _ c.in-Some.ensures.steps.0 c.in-Some.ensures.steps.1
    (c.in-Some.ensures.steps.2 of_one_word (answers_always _ _ _ (λ f a r g h. search rules))).1 (c.in_ok-add_word.ensures up) (c.loop-lot.invariant up)

pub returns : goal.returns
returns c = λ grays rings is_extra is are.
    let sorted : chunk_by_rest c.into_iter-lot-iterator.result ≡ c.in_ok-sorted.sorted.items = search rules in (
      flat_map (v3_of c.args.found.now.grays.now) (lots_of of_one_word c.in_ok-sorted.sorted.items),
      last_lot of_one_word (v3_of c.args.found.now.grays.now) _ _ _ c.in-None.ensures.steps.0 (c.loop-lot.invariant is.all_grays.ordered) ∙ ap (λ es. c.args.findings.now ++ flat_map (v3_of c.args.found.now.grays.now) (lots_of of_one_word es)) sorted,
      words_found (design_in c.args.found.now) (trees_in grays c.args.found.now) c.args.found.now.grays.now (syncs_in c.args.found.now) rings c.args.found.now.loads.now is_extra c.args.entries.now c.in_ok-sorted.sorted.items are c.in_ok-sorted.ensures,
    )
