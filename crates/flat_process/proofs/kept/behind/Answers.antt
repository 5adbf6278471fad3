use Rattle.std.proofs.Common.{◌==◌, List, length, ap, ◌∙◌}
use Rattle.flat_form.specs.declared.flat.FStmt.{FStmt}
use Rattle.flat_form.specs.declared.flat.FStmt.TheVariants as t
use Rattle.flat_form.specs.View.{stmt_of}
use Rattle.flat_unfolding.specs.Widths.{stmt_keeps_sizes}
use Rattle.flat_process.proofs.KeptRows.{behind-rows, behind-sizes}
use Rattle.flat_process.proofs.kept.behind.Goals as goal

pub returns-clause-same : goal.returns-clause-same
returns-clause-same c = ap (λ (ss : List FStmt). stmt_of (t.Block ss)) (c.from_vec.ensures ∙ c.in_ok-push.ensures.pushed)
    ∙ behind-rows c.args.rows.items c.args.body c.is_empty.result (λ e. c.is_empty.ensures ∙ ap (λ (xs : List FStmt). length xs == 0) (c.as_slice.ensures.value ∙ e)) c.if-is_empty.false

pub returns-clause-sizes : goal.returns-clause-sizes
returns-clause-sizes c = λ h e. ap (λ (ss : List FStmt). stmt_keeps_sizes (t.Block ss)) (c.from_vec.ensures ∙ c.in_ok-push.ensures.pushed) ∙ behind-sizes c.args.rows.items c.args.body h e
