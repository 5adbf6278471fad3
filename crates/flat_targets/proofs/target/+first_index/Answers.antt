use Rattle.std.proofs.Common.{◌≡◌, ◌+◌, ◌∷◌, map, drop, sym, ap, ◌∙◌}
use Rattle.std.specs.Option.{option_or}
use Rattle.std.proofs.lemmas.List.{drop_more}
use Rattle.flat_form.specs.declared.flat.FTarget.{FTarget}
use Rattle.flat_form.specs.View.{target_of, targets_of}
use Rattle.flat_unfolding.specs.Targets.{first_pick_in}
use Rattle.flat_targets.proofs.target.+first_index.Goals as goal

pub first_index_of-returns-in-Some : goal.first_index_of-returns-in-Some
first_index_of-returns-in-Some t c =
    let all = c.args.targets.now in
    let i = c.loop-target.target-index in
    let x = c.target-item.result in
    let rest = drop (i + 1) all in
    let next : drop i all ≡ x ∷ rest = drop_more all i x c.loop-target-test.true ∙ ap (λ (z : FTarget). z ∷ rest) (sym c.target-item.is) in
    sym (c.loop-target.invariant ∙ ap (λ ts. first_pick_in (targets_of (map target_of ts))) next
    ∙ ap (λ o. option_or o (first_pick_in (targets_of (map target_of rest)))) (sym c.first_index.ensures ∙ c.in-Some.is))
