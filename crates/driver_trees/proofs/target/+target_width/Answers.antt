-- The next part's width is added.
use Rattle.std.proofs.Common.{◌≡◌, ℕ, ◌+◌, ◌<◌, List, ◌∷◌, map, true, ◌&&◌, drop, sym, ap, ◌∙◌, arith}
use Rattle.std.proofs.lemmas.Bool.{and_parts}
use Rattle.std.proofs.lemmas.List.{drop_more}
use Rattle.flat_form.specs.Sizes.{target_kept, sum, all_right}
use Rattle.flat_form.proofs.Sized.{target_range}
use Rattle.driver_trees.proofs.target.+target_width.Goals as goal

pub loop-part-preserved : goal.loop-part-preserved
loop-part-preserved t c = λ wid widths right.
    let i = c.loop-part.invariant wid widths right in
    let parts = c.as_slice-part-items.result.now in
    let rest = drop (c.loop-part.part-index + 1) parts in
    let next = ap (map (target_kept wid)) (drop_more parts c.loop-part.part-index c.part-item.result (omega (arith, c.loop-part-test.true, c.loop-part.auto.part-index-end)) ∙ ap (λ x. x ∷ rest) (sym c.part-item.is)) in
    let both = and_parts (target_kept wid c.part-item.result).right (all_right (map (target_kept wid) rest)) (sym (ap all_right next) ∙ i.1) in
    let width = c.target_width.ensures wid widths both.0 in
    let most = (target_range wid c.args.target.now right).most in
    let whole = sym (ap sum next) in
    ((omega (arith, c.saturating_add-width.ensures, width, most, i.0, whole)), both.1)
