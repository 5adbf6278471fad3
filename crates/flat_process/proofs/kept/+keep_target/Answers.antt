use Rattle.std.proofs.Common.{◌≡◌, ◌+◌, ◌∷◌, List, map, drop, sym, ap, subst, ◌∙◌}
use Rattle.std.proofs.lemmas.List.{drop_more, drop_all}
use Rattle.flat_form.specs.declared.flat.FTarget.{FTarget}
use Rattle.flat_form.specs.View.{target_of, targets_of}
use Rattle.flat_form.proofs.Folds.{target_of-Whole, target_of-At, target_of-Part, target_of-Join}
use Rattle.flat_unfolding.specs.Names.{width_at}
use Rattle.flat_unfolding.specs.Processes.{kept, all_kept}
use Rattle.flat_names.proofs.Options.{ok-map}
use Rattle.flat_process.specs.Kept.{Grow, Grew}
use Rattle.flat_process.proofs.KeptRows.{grow-on, grew-none, target-is}
use Rattle.flat_process.proofs.kept.+keep_target.Goals as goal

pub keep_targets-loop-target-preserved : goal.keep_targets-loop-target-preserved
keep_targets-loop-target-preserved t c = λ k body shows are.
    let all = c.args.targets.now in
    let i = c.loop-target.target-index in
    let x = c.target-item.result in
    let rest = drop (i + 1) all in
    let wid = width_at k.entries in
    let keeps = λ (xs : List FTarget). all_kept wid body (targets_of (map target_of xs)) in
    let next : drop i all ≡ x ∷ rest = drop_more all i x c.loop-target-test.true ∙ ap (λ (z : FTarget). z ∷ rest) (sym c.target-item.is) in
    grow-on (kept wid body (target_of x)) (keeps rest) (keeps all) c.args.rows.now.items c.loop-target.rows.items c.keep_target.new.rows.items
    (subst (λ xs. Grow (keeps xs) (keeps all) c.args.rows.now.items c.loop-target.rows.items) next (c.loop-target.invariant k body shows are))
    (c.in_ok-keep_target.ensures k body shows are)

pub keep_targets-returns : goal.keep_targets-returns
keep_targets-returns t c = λ k body shows are.
    let all = c.args.targets.now in
    let keeps = λ (xs : List FTarget). all_kept (width_at k.entries) body (targets_of (map target_of xs)) in
    subst (λ xs. Grow (keeps xs) (keeps all) c.args.rows.now.items c.loop-target.rows.items) (drop_all c.loop-target.target-index all c.loop-target-test.false) (c.loop-target.invariant k body shows are)

pub keep_target-returns-in-Whole : goal.keep_target-returns-in-Whole
keep_target-returns-in-Whole t c = λ k body shows are.
    let a = c.in-Whole in
    ok-map c.keep_whole.result (λ u h. target-is (width_at k.entries) body (target_of c.args.target.now) _ c.args.rows.now.items c.keep_whole.new.rows.items (ap target_of a.is ∙ target_of-Whole a.sig) h) (c.keep_whole.ensures k body shows are)

pub keep_target-returns-in-Part : goal.keep_target-returns-in-Part
keep_target-returns-in-Part t c = λ k body shows are.
    let a = c.in-Part in
    let wid = width_at k.entries in
    ok-map c.keep_part.result (λ u h. target-is wid body (target_of c.args.target.now) _ c.args.rows.now.items c.keep_part.new.rows.items (ap target_of a.is ∙ target_of-Part a.sig a.at a.width) h) (c.keep_part.ensures wid body are)

pub keep_target-returns-in-At : goal.keep_target-returns-in-At
keep_target-returns-in-At t c = λ k body shows are.
    let a = c.in-At in
    let rows = c.args.rows.now.items in
    target-is (width_at k.entries) body (target_of c.args.target.now) _ rows rows (ap target_of a.is ∙ target_of-At a.sig a.index) (grew-none rows)

pub keep_target-returns-in-Join : goal.keep_target-returns-in-Join
keep_target-returns-in-Join t c = λ k body shows are.
    let a = c.in-Join in
    let wid = width_at k.entries in
    let old = c.args.rows.now.items in
    let new = c.keep_targets.new.rows.items in
    ok-map c.keep_targets.result (λ u h. target-is wid body (target_of c.args.target.now) _ old new (ap target_of a.is ∙ target_of-Join a.parts)
    (subst (λ (ts : List FTarget). Grew (all_kept wid body (targets_of (map target_of ts))) old new) c.as_slice.ensures h)) (c.keep_targets.ensures k body shows are)
