use Rattle.std.proofs.Common.{◌≡◌, ◌+◌, ◌∷◌, List, map, drop, sym, ap, subst, ◌∙◌}
use Rattle.std.proofs.lemmas.List.{drop_more, drop_all}
use Rattle.flat_form.specs.declared.flat.FStmt.{FStmt}
use Rattle.flat_form.specs.View.{stmt_of, stmts_of}
use Rattle.flat_unfolding.specs.Names.{width_at}
use Rattle.flat_unfolding.specs.Processes.{branch_kept, rows_kept}
use Rattle.flat_names.proofs.Options.{ok-map}
use Rattle.flat_process.specs.Kept.{Grow, Grew}
use Rattle.flat_process.proofs.KeptRows.{grow-on, kept-set, kept-block}
use Rattle.flat_process.proofs.kept.+keep_branch.Goals as goal

pub keep_rows-loop-stmt-preserved : goal.keep_rows-loop-stmt-preserved
keep_rows-loop-stmt-preserved t c = λ k body shows are.
    let all = c.args.stmts.now in
    let i = c.loop-stmt.stmt-index in
    let x = c.stmt-item.result in
    let rest = drop (i + 1) all in
    let wid = width_at k.entries in
    let kept = λ (xs : List FStmt). rows_kept wid body (stmts_of (map stmt_of xs)) in
    let next : drop i all ≡ x ∷ rest = drop_more all i x c.loop-stmt-test.true ∙ ap (λ (z : FStmt). z ∷ rest) (sym c.stmt-item.is) in
    grow-on (branch_kept wid body (stmt_of x)) (kept rest) (kept all) c.args.rows.now.items c.loop-stmt.rows.items c.keep_branch.new.rows.items
    (subst (λ xs. Grow (kept xs) (kept all) c.args.rows.now.items c.loop-stmt.rows.items) next (c.loop-stmt.invariant k body shows are))
    (c.in_ok-keep_branch.ensures k body shows are)

pub keep_rows-returns : goal.keep_rows-returns
keep_rows-returns t c = λ k body shows are.
    let all = c.args.stmts.now in
    let kept = λ (xs : List FStmt). rows_kept (width_at k.entries) body (stmts_of (map stmt_of xs)) in
    subst (λ xs. Grow (kept xs) (kept all) c.args.rows.now.items c.loop-stmt.rows.items) (drop_all c.loop-stmt.stmt-index all c.loop-stmt-test.false) (c.loop-stmt.invariant k body shows are)

pub keep_branch-returns-in-Set : goal.keep_branch-returns-in-Set
keep_branch-returns-in-Set t c = λ k body shows are.
    let a = c.in-Set in
    ok-map c.keep_target.result (λ u h. kept-set (width_at k.entries) body c.args.branch.now a.blocking a.target a.value c.args.rows.now.items c.keep_target.new.rows.items a.is h) (c.keep_target.ensures k body shows are)

pub keep_branch-returns-in-Block : goal.keep_branch-returns-in-Block
keep_branch-returns-in-Block t c = λ k body shows are.
    let a = c.in-Block in
    let wid = width_at k.entries in
    ok-map c.keep_rows.result (λ u h. kept-block wid body c.args.branch.now a.stmts c.args.rows.now.items c.keep_rows.new.rows.items a.is
    (subst (λ (ss : List FStmt). Grew (rows_kept wid body (stmts_of (map stmt_of ss))) c.args.rows.now.items c.keep_rows.new.rows.items) c.as_slice.ensures h)) (c.keep_rows.ensures k body shows are)
