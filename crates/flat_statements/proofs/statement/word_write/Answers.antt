use Rattle.std.proofs.Common.{false, ap, ap₂, ◌∙◌}
use Rattle.std.proofs.lemmas.Result.{IfOk-weaker}
use Rattle.flat_meaning.specs.Flat as f
use Rattle.flat_form.specs.declared.flat.FStmt.TheVariants as t
use Rattle.flat_form.specs.declared.flat.FTarget.TheVariants as g
use Rattle.flat_form.specs.Sizes.{Kept}
use Rattle.flat_form.proofs.Folds.{target_of-Whole}
use Rattle.flat_unfolding.specs.Widths.{keeps_sizes, target_keeps_sizes, stmt_keeps_sizes}
use Rattle.flat_statements.proofs.Sizes.{both-true, sized-keeps}
use Rattle.flat_statements.proofs.Forms.{builds-set, whole-keeps}
use Rattle.flat_statements.proofs.statement.word_write.Goals as goal

pub returns : goal.returns
returns c = λ s n.
    let w = g.Whole c.args.word in
    let v = c.in_ok-value.value in
    let k = c.in_ok-cond.cond in
    let m = c.in_ok-cond.ensures s n in
    let b = builds-set false w v in
    IfOk-weaker c.chosen_alone.result _ _ (λ r h. (
      h.stmt ∙ ap₂ (λ x y. f.If x y f.Null) m.expr (b.stmt ∙ ap₂ (f.Set false) (target_of-Whole c.args.word) c.in_ok-value.ensures.same),
      (λ z. h.sizes ∙ both-true (keeps_sizes k) (stmt_keeps_sizes (t.Set false w v)) (sized-keeps k (ap (λ (x : Kept). x.right) m.kept ∙ s))
          (b.sizes ∙ both-true (target_keeps_sizes w) (keeps_sizes v) (whole-keeps c.args.word) (sized-keeps v (ap (λ (x : Kept). x.right) c.in_ok-value.ensures.kept ∙ z)))),
    )) c.chosen_alone.ensures
