use Rattle.std.proofs.Common.{◌≡◌, ℕ, ◌+◌, List, [], ◌∷◌, ◌++◌, drop, subst, sym, ap, ◌∙◌}
use Rattle.std.proofs.lemmas.List.{drop_more}
use Rattle.flat_form.specs.declared.flat.FExpr.{FExpr}
use Rattle.flat_form.proofs.Labels.{AddsLabels, labels-step}
use Rattle.flat_form.proofs.cases.add_values.Goals as goal

pub loop-label-preserved : goal.loop-label-preserved
loop-label-preserved c = λ h r s.
    let all = c.args.labels.now in
    let i = c.loop-label.label-index in
    let label = c.label-item.result in
    let old = c.args.values.now.items in
    let now = c.loop-label.values.items in
    let next : drop i all ≡ label ∷ drop (i + 1) all = drop_more all i label c.loop-label-test.true ∙ ap (λ (k : FExpr). k ∷ drop (i + 1) all) (sym c.label-item.is) in
    let before : AddsLabels c.args.size old now (label ∷ drop (i + 1) all) all = subst (λ (es : List FExpr). AddsLabels c.args.size old now es all) next (c.loop-label.invariant h r s) in
    let pushed : c.push.new.items.items ≡ now ++ c.value_at.result ∷ [] = c.in_ok-push.ensures.pushed in
    subst (λ (vs : List ℕ). AddsLabels c.args.size old vs (drop (i + 1) all) all) (sym pushed) (labels-step c.args.size c.value_at.result old now label (drop (i + 1) all) all before s c.value_at.ensures)
