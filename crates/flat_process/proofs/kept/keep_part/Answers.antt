use Rattle.std.proofs.Common.{false, sym, ap, subst, ◌∙◌}
use Rattle.flat_meaning.specs.Flat.{Read, Part, Set, assigns}
use Rattle.flat_form.proofs.Folds.{target_of-Part}
use Rattle.flat_unfolding.specs.Processes.{kept}
use Rattle.flat_names.proofs.Options.{ok-map}
use Rattle.flat_process.specs.Kept.{Grew}
use Rattle.flat_process.proofs.KeptRows.{grew-one, part-keeps}
use Rattle.flat_process.proofs.kept.keep_part.Goals as goal

pub returns : goal.returns
returns c = λ wid body are.
    let s = c.args.sig in
    let at = c.args.at in
    let w = c.args.width in
    let rows = c.args.rows.now.items in
    ok-map c.push.result
    (λ u h. subst (Grew (kept wid body (Part s at w)) rows) (sym h)
    (grew-one (assigns body s) _ c.own.result rows (sym (are s) ∙ sym c.has.ensures ∙ c.if-has.false) (c.own.ensures.same ∙ ap (λ x. Set false x (Read s at w)) (target_of-Part s at w)) (c.own.ensures.sizes (part-keeps s at w))))
    c.push.ensures.pushed
