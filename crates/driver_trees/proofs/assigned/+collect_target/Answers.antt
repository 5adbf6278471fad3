-- What each part of a target may assign is added.
use Rattle.std.proofs.Common.{rules, arith, ◌≡◌, ℕ, ◌+◌, ◌<◌, ◌≤◌, ◌&&◌, ◌==◌, true, nat_lt, List, [], ◌∷◌, map, drop, length, refl, sym, ap, ◌∙◌, lt-ltb}
use Rattle.std.proofs.lemmas.List.{drop_more, drop_all}
use Rattle.cell_graph.specs.Tree.{bit_at}
use Rattle.flat_form.specs.declared.flat.FTarget.{FTarget}
use Rattle.flat_form.specs.declared.flat.FTarget.TheVariants as v
use Rattle.flat_form.specs.View.{target_of, targets_of}
use Rattle.flat_form.proofs.Folds.{target_of-Whole, target_of-At, target_of-Part, target_of-Join}
use Rattle.flat_meaning.specs.Flat.{is_target, are_targets}
use Rattle.flat_meaning.specs.Assigned.{is_within, reaches, reach}
use Rattle.driver_trees.proofs.Growing.{ok-map}
use Rattle.driver_trees.proofs.Collected.{adds_as, some_first, some_more, some_last}
use Rattle.driver_trees.proofs.assigned.+collect_target.Goals as goal

low : (n at w i : ℕ) → i < 64 → bit_at n i ≡ (nat_lt i 64 && is_within at w i) → bit_at n i ≡ is_within at w i
low n at w i l h = h ∙ ap (λ b. b && is_within at w i) (lt-ltb i 64 l)

pub collect_target-returns-in-Whole : goal.collect_target-returns-in-Whole
collect_target-returns-in-Whole t c = record {
  adds = λ wid widths.
      let sig = c.in-Whole.sig in
      let is = ap target_of c.in-Whole.is ∙ target_of-Whole sig in
      let n : c.width.result ≡ wid sig = c.width.ensures ∙ widths sig in
      ok-map c.include.result (λ u h. adds_as h (λ x. sym (ap (λ s. is_target s x) is)) (λ x i l. sym (ap (λ s. reaches wid s x i) is)))
      (c.include.ensures.adds (is_within 0 (wid sig)) (λ i l. low c.low_bits.result 0 c.width.result i l (c.low_bits.ensures.set i) ∙ ap (λ w. is_within 0 w i) n));
}

pub collect_target-returns-in-At : goal.collect_target-returns-in-At
collect_target-returns-in-At t c = record {
  adds = λ wid widths.
      let sig = c.in-At.sig in
      let is = ap target_of c.in-At.is ∙ target_of-At sig c.in-At.index in
      let n : c.width-in-At.result ≡ wid sig = c.width-in-At.ensures ∙ widths sig in
      ok-map c.include-in-At.result (λ u h. adds_as h (λ x. sym (ap (λ s. is_target s x) is)) (λ x i l. sym (ap (λ s. reaches wid s x i) is)))
      (c.include-in-At.ensures.adds (is_within 0 (wid sig)) (λ i l. low c.low_bits-in-At.result 0 c.width-in-At.result i l (c.low_bits-in-At.ensures.set i) ∙ ap (λ w. is_within 0 w i) n));
}

pub collect_target-returns-in-Part : goal.collect_target-returns-in-Part
collect_target-returns-in-Part t c = record {
  adds = λ wid widths.
      let at = c.in-Part.at in let w = c.in-Part.width in
      let is = ap target_of c.in-Part.is ∙ target_of-Part c.in-Part.sig at w in
      ok-map c.include-in-Part.result (λ u h. adds_as h (λ x. sym (ap (λ s. is_target s x) is)) (λ x i l. sym (ap (λ s. reaches wid s x i) is)))
      (c.include-in-Part.ensures.adds (is_within at w) (λ i l. low c.bits.result at w i l (c.bits.ensures i)));
}

pub collect_target-returns-in-Join : goal.collect_target-returns-in-Join
collect_target-returns-in-Join t c = record {
  adds = λ wid widths.
      let parts = c.as_slice.result.now in
      let at : c.args.target.now ≡ v.Join parts = c.in-Join.is ∙ ap v.Join (sym c.as_slice.ensures) in
      let is = ap target_of at ∙ target_of-Join parts in
      ok-map c.collect_targets.result (λ u h. adds_as h (λ x. sym (ap (λ s. is_target s x) is)) (λ x i l. sym (ap (λ s. reaches wid s x i) is))) (c.collect_targets.ensures.adds wid widths);
}

pub collect_targets-loop-part-init : goal.collect_targets-loop-part-init
collect_targets-loop-part-init t c = λ wid widths. some_first c.args.assigned.now _ _

pub collect_targets-loop-part-preserved : goal.collect_targets-loop-part-preserved
collect_targets-loop-part-preserved t c = λ wid widths.
    let parts = c.args.parts.now in let k = c.loop-part.part-index in let part = c.part-item.result in
    let next : drop k parts ≡ part ∷ drop (k + 1) parts = drop_more parts k part (omega (arith, c.loop-part-test.true, c.loop-part.auto.part-index-end)) ∙ ap (λ y. y ∷ drop (k + 1) parts) (sym c.part-item.is) in
    some_more (c.loop-part.invariant wid widths) (c.in_ok-collect_target.ensures.adds wid widths) (λ x. sym (ap (λ l. are_targets (targets_of (map target_of l)) x) next))
    (λ x i. sym (ap (λ l. reach wid (targets_of (map target_of l)) x i) next))

pub collect_targets-returns : goal.collect_targets-returns
collect_targets-returns t c = record {
  adds = λ wid widths.
      let none : drop c.loop-part.part-index c.args.parts.now ≡ [] = drop_all c.loop-part.part-index c.args.parts.now (omega (arith, c.loop-part-test.false)) in
      some_last (c.loop-part.invariant wid widths) (λ x. ap (λ l. are_targets (targets_of (map target_of l)) x) none) (λ x i. ap (λ l. reach wid (targets_of (map target_of l)) x i) none);
}
