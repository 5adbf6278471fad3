use Rattle.std.proofs.Common.{rules, ◌≡◌, ◌++◌, ◌∷◌, [], List, map, ap, subst, ◌∙◌}
use Rattle.flat_form.specs.View.{expr_of}
use Rattle.flat_form.specs.Sizes.{kept_of}
use Rattle.flat_unfolding.specs.Statements.{way_test}
use Rattle.flat_statements.specs.declared.masks.MaskLabel.{MaskLabel}
use Rattle.flat_statements.specs.declared.masks.MaskItem.{MaskItem}
use Rattle.flat_statements.specs.Masks.{items_width, mask_in, AreRight, IsTest}
use Rattle.flat_statements.proofs.Chains.{ChainSoFar, chain-start, size-is, chain-step, chain-end}
use Rattle.flat_statements.proofs.masks.chained.Goals as goal

pub loop-labels-init : goal.loop-labels-init
loop-labels-init c = λ t ws d r a b.
    let s = c.args.subject in
    let is = c.args.items.items in
    chain-start t ws d c.compared_size-size.result s is c.args.last (c.compared_size-size.ensures ∙ ap (items_width (kept_of s.expr).width) c.as_slice.ensures.value) a b

pub loop-labels-preserved : goal.loop-labels-preserved
loop-labels-preserved c = λ t ws d r a b.
    let s = c.args.subject in
    let is = c.args.items.items in
    let w = c.compared_size-size.result in
    let x = c.in-Some.field-0 in
    let e = c.in_ok-test.test in
    let z = c.loop-labels.chain in
    let left = c.pop.new.self.items in
    let all : c.loop-labels.items.items ≡ left ++ x ∷ [] = search rules in
    let labels : c.as_slice-in-Some.result.now ≡ x.labels.items = search rules in
    let size = size-is t ws d w s is (c.compared_size-size.ensures ∙ ap (items_width (kept_of s.expr).width) c.as_slice.ensures.value) r a in
    let test = subst (λ (cs : List MaskLabel). IsTest (AreRight w s.expr cs) (way_test w (expr_of s.expr) (map mask_in cs)) e) labels c.in_ok-test.ensures in
    chain-step t ws d w s c.loop-labels.items.items left x e z c.in_ok-chain.chain size r (c.loop-labels.invariant t ws d r a b) all test c.in_ok-chain.ensures

pub returns : goal.returns
returns c = λ t ws d r a b.
    let none : c.loop-labels.items.items ≡ [] = search rules in
    chain-end t ws d c.compared_size-size.result c.loop-labels.chain (subst (λ (is : List MaskItem). ChainSoFar t ws d c.compared_size-size.result is c.loop-labels.chain) none (c.loop-labels.invariant t ws d r a b))
