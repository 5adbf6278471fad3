use Rattle.std.proofs.Common.{◌≡◌, ◌+◌, List, [], drop, subst}
use Rattle.std.proofs.lemmas.List.{drop_all}
use Rattle.flat_statements.specs.declared.masks.MaskLabel.{MaskLabel}
use Rattle.flat_statements.proofs.Lefts.{left-is}
use Rattle.flat_statements.proofs.Tests.{TestSoFar, test-start, test-step, test-end}
use Rattle.flat_statements.proofs.masks.item_test.Goals as goal

pub loop-label-preserved : goal.loop-label-preserved
loop-label-preserved c =
    let xs = c.in-Some.others.now in
    let i = c.loop-label.label-index in
    let x = c.label-item.result in
    test-step c.args.size c.args.subject.now c.args.labels.now (drop i xs) (drop (i + 1) xs) x _ c.loop-label.test c.in_ok-other.other c.in_ok-test-2.test c.loop-label.invariant
    (left-is xs i x c.loop-label-test.true c.label-item.is) c.in_ok-other.ensures c.in_ok-test-2.ensures

pub loop-label-init : goal.loop-label-init
loop-label-init c = test-start c.args.size c.args.subject.now c.args.labels.now c.in-Some.first.now c.in-Some.others.now c.in_ok-test.test c.in-Some.ensures.cases.0 c.in_ok-test.ensures

pub returns : goal.returns
returns c =
    let xs = c.in-Some.others.now in
    let none : drop c.loop-label.label-index xs ≡ [] = drop_all c.loop-label.label-index xs c.loop-label-test.false in
    test-end c.args.size c.args.subject.now c.args.labels.now c.loop-label.test (subst (λ (ys : List MaskLabel). TestSoFar c.args.size c.args.subject.now c.args.labels.now ys c.loop-label.test) none c.loop-label.invariant)
