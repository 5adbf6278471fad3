use Rattle.std.proofs.Common.{◌≡◌, ◌+◌, Bool, List, [], drop, refl, sym, subst, ◌∙◌, append-nil}
use Rattle.std.proofs.lemmas.List.{drop_all}
use Rattle.flat_names.proofs.Looked.{own-is}
use Rattle.flat_statements.specs.declared.masks.MaskLabel.{MaskLabel}
use Rattle.flat_statements.proofs.Lefts.{left-is}
use Rattle.flat_statements.proofs.MetLabels.{MetSoFar, met-start, met-step}
use Rattle.flat_statements.proofs.masks.are_met.Goals as goal

pub loop-label-init : goal.loop-label-init
loop-label-init c = λ r. met-start c.args.size c.args.subject.now c.args.labels.now c.new-met.result.items r c.new-met.ensures.items

pub loop-label-preserved : goal.loop-label-preserved
loop-label-preserved c = λ r.
    let xs = c.args.labels.now in
    let i = c.loop-label.label-index in
    let x = c.label-item.result in
    let e = c.in_ok-test.test in
    subst (λ (bs : List Bool). MetSoFar c.args.size c.args.subject.now xs (drop (i + 1) xs) bs) (sym c.in_ok-push.ensures.pushed)
    (met-step c.args.size c.args.subject.now xs (drop (i + 1) xs) (drop i xs) x e c.own_value.result _ c.loop-label.met.items r (c.loop-label.invariant r) (left-is xs i x c.loop-label-test.true c.label-item.is) c.in_ok-test.ensures
    (λ s. own-is e c.own_value.result s (c.own_value.ensures s).0) refl)

pub returns : goal.returns
returns c = λ r.
    let xs = c.args.labels.now in
    let none : drop c.loop-label.label-index xs ≡ [] = drop_all c.loop-label.label-index xs c.loop-label-test.false in
    let h = subst (λ (ys : List MaskLabel). MetSoFar c.args.size c.args.subject.now xs ys c.loop-label.met.items) none (c.loop-label.invariant r) in
    sym (append-nil c.loop-label.met.items) ∙ h.met
