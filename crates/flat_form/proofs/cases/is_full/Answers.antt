use Rattle.std.proofs.Common.{◌≡◌, ℕ, ◌+◌, ◌≤◌, ◌||◌, ◌==◌, true, false, List, [], ◌∷◌, map, drop, subst, sym, ap, ◌∙◌, IsPermutation}
use Rattle.std.specs.List.{list_all}
use Rattle.std.specs.List.Sorted.{IsNonDecreasingBy}
use Rattle.std.proofs.lemmas.List.{drop_more, drop_all}
use Rattle.std.proofs.lemmas.List.Sorted.{list_any-IsPermutation, IsNonDecreasingBy-from_sort}
use Rattle.flat_meaning.specs.Flat.{largest}
use Rattle.flat_meaning.specs.Full.{are_const, has_label}
use Rattle.flat_form.specs.declared.flat.FExpr.{FExpr}
use Rattle.flat_form.specs.declared.flat.FCaseItem.{FCaseItem}
use Rattle.flat_form.specs.View.{arm_of}
use Rattle.flat_form.specs.Sizes.{is_sized}
use Rattle.flat_form.proofs.Constants.{these}
use Rattle.flat_form.proofs.Labels.{AddsItems, is_among, items-step, item-sized, item-room, not-constant, full-is, full-default, largest-default}
use Rattle.flat_form.proofs.cases.is_full.Goals as goal

pub returns-then-not-are_constant : goal.returns-then-not-are_constant
returns-then-not-are_constant c = λ d h r s.
    let all = c.args.items.now in
    let i = c.loop-item.item-index in
    let item = c.item-item.result in
    let w = c.args.size in
    let next : drop i all ≡ item ∷ drop (i + 1) all = drop_more all i item c.loop-item-test.true ∙ ap (λ (k : FCaseItem). k ∷ drop (i + 1) all) (sym c.item-item.is) in
    let before = subst (λ (is : List FCaseItem). AddsItems w c.loop-item.values.items is all) next (c.loop-item.invariant h (subst (λ n. n ≤ w) (largest-default (map arm_of all) d) r) s) in
    let fails : are_const (these item.labels) ≡ false = ap (λ (es : List FExpr). are_const (these es)) (sym c.as_slice-labels.ensures) ∙ sym c.are_constant.ensures ∙ c.if-not-are_constant.true in
    not-constant w c.loop-item.values.items item (drop (i + 1) all) all before fails ∙ sym (full-default w (map arm_of all) d)

pub loop-item-preserved : goal.loop-item-preserved
loop-item-preserved c = λ h r s.
    let all = c.args.items.now in
    let i = c.loop-item.item-index in
    let item = c.item-item.result in
    let w = c.args.size in
    let old = c.loop-item.values.items in
    let new = c.add_values.new.values.items in
    let rest = drop (i + 1) all in
    let e = c.as_slice-labels.ensures in
    let next : drop i all ≡ item ∷ rest = drop_more all i item c.loop-item-test.true ∙ ap (λ (k : FCaseItem). k ∷ rest) (sym c.item-item.is) in
    let before : AddsItems w old (item ∷ rest) all = subst (λ (is : List FCaseItem). AddsItems w old is all) next (c.loop-item.invariant h r s) in
    let const : are_const (these item.labels) ≡ true = ap (λ (es : List FExpr). are_const (these es)) (sym e) ∙ sym c.are_constant.ensures ∙ c.if-not-are_constant.false in
    let added : (x : ℕ) → is_among x new ≡ (is_among x old || has_label w x (these item.labels)) =
    subst (λ (es : List FExpr). (x : ℕ) → is_among x new ≡ (is_among x old || has_label w x (these es))) e
    (c.in_ok-add_values.ensures (subst (λ (es : List FExpr). list_all is_sized es ≡ true) (sym e) (item-sized w old item rest all before)) (subst (λ (es : List FExpr). largest (these es) ≤ w) (sym e) (item-room w old item rest all before)) s) in
    items-step w old new item rest all before const added

pub returns : goal.returns
returns c = λ d h r s.
    let all = c.args.items.now in
    let w = c.args.size in
    let values = c.loop-item.values.items in
    let sorted = c.as_slice.result.now in
    let j : AddsItems w values [] all = subst (λ (is : List FCaseItem). AddsItems w values is all) (drop_all c.loop-item.item-index all c.loop-item-test.false) (c.loop-item.invariant h (subst (λ n. n ≤ w) (largest-default (map arm_of all) d) r) s) in
    let reordered : IsPermutation values sorted = subst (λ (vs : List ℕ). IsPermutation values vs) (sym c.as_slice.ensures.value) c.sort_unstable.ensures.permutation in
    let up : IsNonDecreasingBy (λ (v : ℕ). v) sorted = subst (λ (vs : List ℕ). IsNonDecreasingBy (λ (v : ℕ). v) vs) (sym c.as_slice.ensures.value) (IsNonDecreasingBy-from_sort (λ (v : ℕ). v) c.sort_unstable.new.self.items c.sort_unstable.ensures.sorted) in
    full-is w c.mask.result c.least_absent.result values sorted all j (λ x. list_any-IsPermutation (λ (v : ℕ). x == v) values sorted reordered) c.least_absent.ensures.below (c.least_absent.ensures.absent up) c.mask.ensures s
    ∙ sym (full-default w (map arm_of all) d)
