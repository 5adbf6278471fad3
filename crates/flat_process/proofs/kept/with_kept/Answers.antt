use Rattle.std.proofs.Common.{◌||◌, List, refl, ap, subst, ◌∙◌}
use Rattle.flat_meaning.specs.Flat.{stmt, no_stmts, assigns}
use Rattle.flat_form.specs.declared.flat.FStmt.{FStmt}
use Rattle.flat_form.specs.View.{stmt_of}
use Rattle.flat_unfolding.specs.Names.{width_at}
use Rattle.flat_unfolding.specs.Processes.{as_one, branch_kept}
use Rattle.flat_names.proofs.Options.{ok-map}
use Rattle.flat_process.specs.Kept.{Grew}
use Rattle.flat_process.proofs.kept.with_kept.Goals as goal

pub returns-clause-same : goal.returns-clause-same
returns-clause-same c = λ l shows.
    let body = stmt_of c.args.body in
    let grew = subst (λ (xs : List FStmt). Grew (branch_kept (width_at l.entries) body (stmt_of c.args.branch.now)) xs c.keep_branch.new.rows.items) c.new-rows.ensures.items
    (c.in_ok-keep_branch.ensures l body shows (λ s. c.in_ok-add_may_assign.ensures.listed s ∙ ap (λ b. b || assigns body s) (c.new-assigned.ensures.unlisted s))) in
    ok-map c.behind.result (λ r h. h ∙ ap as_one (grew.rows (stmt body no_stmts))) c.behind.ensures.same

pub returns-clause-sizes : goal.returns-clause-sizes
returns-clause-sizes c = λ l shows.
    let body = stmt_of c.args.body in
    let grew = subst (λ (xs : List FStmt). Grew (branch_kept (width_at l.entries) body (stmt_of c.args.branch.now)) xs c.keep_branch.new.rows.items) c.new-rows.ensures.items
    (c.in_ok-keep_branch.ensures l body shows (λ s. c.in_ok-add_may_assign.ensures.listed s ∙ ap (λ b. b || assigns body s) (c.new-assigned.ensures.unlisted s))) in
    c.behind.ensures.sizes (grew.sizes refl)
