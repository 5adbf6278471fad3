use Rattle.std.proofs.Common.{List, map, Some, ◌&&◌, subst}
use Rattle.flat_meaning.specs.Flat as f
use Rattle.flat_form.specs.declared.flat.FCaseItem.{FCaseItem}
use Rattle.flat_form.specs.declared.flat.FStmt.TheVariants as t
use Rattle.flat_form.specs.View.{expr_of, stmt_of, arm_of, items_of}
use Rattle.flat_unfolding.specs.Widths.{keeps_sizes, all_true, stmt_keeps_sizes}
use Rattle.flat_statements.specs.Statements.{arm_keeps_sizes, Builds}
use Rattle.flat_statements.proofs.Forms.{builds-case}
use Rattle.flat_statements.proofs.statement.case_with.Goals as goal

pub returns : goal.returns
returns c =
    let e = c.args.subject in
    let d = c.args.default in
    subst (λ (is : List FCaseItem). Builds (t.Case e c.from_vec.result (Some c.in_ok-boxed_stmt.field-0)) (f.Case (expr_of e) (items_of (map arm_of is) (f.default_item (stmt_of d)))) (keeps_sizes e && (all_true (map arm_keeps_sizes is) && stmt_keeps_sizes d)))
    c.from_vec.ensures (builds-case e c.from_vec.result d c.in_ok-boxed_stmt.field-0 c.in_ok-boxed_stmt.ensures)
