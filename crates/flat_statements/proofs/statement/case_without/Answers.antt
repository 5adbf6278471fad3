use Rattle.std.proofs.Common.{◌&&◌, Bool, true, false, List, map, sym, ap, ◌∙◌}
use Rattle.std.proofs.lemmas.Result.{IfOk-weaker}
use Rattle.flat_meaning.specs.Flat as f
use Rattle.flat_form.specs.declared.flat.FCaseItem.{FCaseItem}
use Rattle.flat_form.specs.declared.flat.FStmt.TheVariants as t
use Rattle.flat_form.specs.View.{expr_of, stmt_of, arm_of, items_of}
use Rattle.flat_form.proofs.StmtFolds.{stmt_of-Null}
use Rattle.flat_unfolding.specs.Widths.{keeps_sizes, all_true}
use Rattle.flat_statements.specs.Statements.{arm_keeps_sizes}
use Rattle.flat_statements.proofs.Done.{done-switch, last-none, last-null, keeps-null}
use Rattle.flat_statements.proofs.Forms.{builds-case_alone}
use Rattle.flat_statements.proofs.statement.case_without.Goals as goal

pub returns-then-branch : goal.returns-then-branch
returns-then-branch c = λ l k e rows h a.
    let v = c.args.subject in
    let m = c.args.cases in
    let is = m.items.items in
    let b = builds-case_alone v.expr c.from_vec.result in
    done-switch l k e rows v is m.is_sound m.is_constant _ true h a (sym c.if-branch.true ∙ c.in_ok-takes_all.ensures h.sized (λ x. a.sized (sym a.sound_is ∙ x)))
    (b.stmt ∙ ap (λ (ys : List FCaseItem). f.Case (expr_of v.expr) (items_of (map arm_of ys) f.no_items)) c.from_vec.ensures ∙ ap (f.Case (expr_of v.expr)) (last-none is))
    (b.sizes ∙ ap (λ (ys : List FCaseItem). keeps_sizes v.expr && (all_true (map arm_keeps_sizes ys) && true)) c.from_vec.ensures)

pub returns : goal.returns
returns c = λ l k e rows h a.
    let v = c.args.subject in
    let m = c.args.cases in
    let is = m.items.items in
    IfOk-weaker c.case_with.result _ _ (λ r b.
    done-switch l k e rows v is m.is_sound m.is_constant r false h a (sym c.if-branch.false ∙ c.in_ok-takes_all.ensures h.sized (λ x. a.sized (sym a.sound_is ∙ x)))
    (b.stmt ∙ ap (f.Case (expr_of v.expr)) (last-null is (stmt_of t.Null) stmt_of-Null))
    (b.sizes ∙ ap (λ (y : Bool). keeps_sizes v.expr && (all_true (map arm_keeps_sizes is) && y)) keeps-null)) c.case_with.ensures
