use Rattle.std.proofs.Common.{false, sym, ap, subst, ◌∙◌}
use Rattle.flat_meaning.specs.Flat.{Read, Whole, Set, assigns}
use Rattle.flat_form.proofs.Folds.{target_of-Whole}
use Rattle.flat_unfolding.specs.Names.{width_at}
use Rattle.flat_unfolding.specs.Processes.{kept}
use Rattle.flat_names.proofs.Options.{ok-map}
use Rattle.flat_process.specs.Kept.{Grew}
use Rattle.flat_process.proofs.KeptRows.{grew-one, whole-keeps, bits-are}
use Rattle.flat_process.proofs.kept.keep_whole.Goals as goal

pub returns : goal.returns
returns c = λ l body shows are.
    let s = c.args.sig in
    let rows = c.args.rows.now.items in
    let w = c.width_at-width.result in
    let same = c.width_at-width.ensures ∙ bits-are c.args.look.now l shows s in
    ok-map c.push.result
    (λ u h. subst (Grew (kept (width_at l.entries) body (Whole s)) rows) (sym h)
    (grew-one (assigns body s) _ c.own.result rows (sym (are s) ∙ sym c.has.ensures ∙ c.if-has.false)
    (c.own.ensures.same ∙ ap (λ x. Set false x (Read s 0 w)) (target_of-Whole s) ∙ ap (λ n. Set false (Whole s) (Read s 0 n)) same) (c.own.ensures.sizes (whole-keeps s))))
    c.push.ensures.pushed
