-- Each form of an expression is made of the trees of its operands.
use Rattle.std.proofs.Common.{◌≡◌, ℕ, ◌+◌, ◌*◌, ◌≤◌, true, [], ◌∷◌, ◌++◌, IfOk, drop, map, refl, sym, ap, ap₂, subst, ◌∙◌, arith}
use Rattle.std.proofs.lemmas.List.{drop_all, drop_more, nil_from_length}
use Rattle.std.proofs.lemmas.Nat.{pow_pos}
use Rattle.cell_graph.specs.Tree.{Mux, Slice, Shr}
use Rattle.flat_form.specs.declared.flat.FExpr.{FExpr}
use Rattle.flat_form.specs.View.{unary_of, binary_of, expr_of, exprs_of}
use Rattle.flat_form.specs.Sizes.{is_sized}
use Rattle.flat_meaning.specs.Flat as f
use Rattle.flat_meaning.specs.Flat.{size, sizes, largest}
use Rattle.flat_meaning.specs.Meaning.{unary_at, left_at, right_at}
use Rattle.flat_meaning.specs.Trees.{Selects, fit, truth, copies_tree, unary_tree, binary_tree, joined_tree, gate_on, gate_tree, tree}
use Rattle.driver_trees.specs.Drafts.{tree_in, width_at, IsDraftOf}
use Rattle.driver_trees.specs.Growth.{IsBuilt, joined_bits, joined_in}
use Rattle.driver_trees.specs.Presents.{AreRead}
use Rattle.driver_trees.proofs.Growing.{built-after, built-as, built-of, built-of_two, built-of_three, ok-map, place-kept, still-grows, still-longer}
use Rattle.driver_trees.proofs.Around.{choices-kept}
use Rattle.driver_trees.proofs.Seen.{sees-later}
use Rattle.driver_trees.proofs.Forms.{binary-fits, factors, first-read, gate-sizes, of-At, of-Binary, of-Choose, of-Gate, of-Join, of-Number, of-Read, of-Repeat, of-Unary, size-range, unary-fits}
use Rattle.driver_trees.proofs.Walked.{all-walked, choice-walked, nothing-walked, other-smaller}
use Rattle.driver_trees.proofs.Parts.{views, all-parts, first-input, next-input, next-part, no-part}
use Rattle.driver_trees.proofs.expr.+trees.Goals as goal

-- ---- a chain of choices

pub tree-loop-inner-init : goal.tree-loop-inner-init
tree-loop-inner-init t c = (
  (omega arith),
  λ wid look are sees is l most. nothing-walked wid look c.args.drafts.now c.args.width c.args.e.now c.new-around.result.items c.new-around.ensures.items are is l,
)

pub tree-loop-inner-preserved : goal.tree-loop-inner-preserved
tree-loop-inner-preserved t c = (
  (let a = other-smaller c.loop-inner.inner.now c.deref-inner.result.now c.in-Choose.cond c.in-Choose.yes c.in-Choose.other c.in-Choose.width c.in-Choose.is c.deref-inner.ensures in let b = c.loop-inner.invariant.0 in omega (arith, a, b)),
  λ wid look are sees is l most.
      let old = c.args.drafts.now in
      let ds = c.loop-inner.drafts in
      let p = c.args.present.now in
      let x = c.args.e.now in
      let W = c.args.width in
      let so_far = c.loop-inner.invariant.1 wid look are sees is l most in
      let w = c.deref.result.now in
      let y = c.deref-in-Choose-2.result.now in
      let z = c.deref-inner.result.now in
      let form = of-Choose wid c.loop-inner.inner.now so_far.read c.in-Choose.cond c.in-Choose.yes c.in-Choose.other c.in-Choose.width w y z c.in-Choose.is c.deref.ensures c.deref-in-Choose-2.ensures c.deref-inner.ensures in
      let same : c.deref-in-Choose.result.now ≡ w = c.deref-in-Choose.ensures ∙ sym c.deref.ensures in
      let own : c.width_of.result ≡ size (expr_of w) = c.width_of.ensures.size (ap is_sized same ∙ form.1.sized) ∙ ap (λ v. size (expr_of v)) same in
      let range = size-range wid w form.1 in
      let fits = subst (λ v. size v ≤ W) form.0 so_far.fits in
      let sees_ds = sees-later wid old ds p look so_far.grows.longer sees in
      let m = c.tree.new.drafts in
      let n = c.truth.new.self in
      let o = c.tree-in-Choose.new.drafts in
      let word = subst (λ k. IsBuilt wid ds m c.in_ok-word.word k (λ sel. tree wid (look sel) (expr_of w) k)) own
      (c.in_ok-word.ensures.built wid look so_far.grows.drafts sees_ds form.1 (omega (arith, own)) (omega (arith, own, range.most))) in
      let cond_is = built-of (truth (size (expr_of w))) word (c.in_ok-cond.ensures.built wid (size (expr_of w)) word.grows.drafts word.place) in
      let chosen_is = c.in_ok-yes.ensures.built wid look cond_is.grows.drafts (sees-later wid ds n p look cond_is.grows.longer sees_ds) form.2 (omega (arith, fits)) most in
      choice-walked wid look old ds n o W x c.loop-inner.inner.now w y z c.loop-inner.around.items c.push.new.items.items c.in_ok-cond.cond c.in_ok-yes.yes so_far form.0 form.3 cond_is chosen_is c.in_ok-push.ensures,
)

pub tree-returns : goal.tree-returns
tree-returns t c = record {
  built = λ wid look are sees is l most.
      let old = c.args.drafts.now in
      let ds = c.loop-inner.drafts in
      let so_far = c.loop-inner.invariant.1 wid look are sees is l most in
      let word = c.in_ok-word-2.ensures.built wid look so_far.grows.drafts (sees-later wid old ds c.args.present.now look so_far.grows.longer sees) so_far.read so_far.fits most in
      ok-map c.chosen.result (λ id b. all-walked so_far word b) (c.chosen.ensures.built wid c.args.width word.grows.drafts word.place (choices-kept ds c.by_form.new.drafts c.args.width word.grows.longer c.loop-inner.around.items so_far.choices));
}

-- ---- forms

pub by_form-returns-in_ok-number-in-Number : goal.by_form-returns-in_ok-number-in-Number
by_form-returns-in_ok-number-in-Number t c = record {
  built = λ wid look are sees is l most.
      let x = c.args.e.now in
      let W = c.args.width in
      let own = c.in-Number.own in
      let form = of-Number wid x is c.in-Number.value own c.in-Number.is in
      let narrow : own ≤ W = subst (λ z. size z ≤ W) form.0 l in
      let one = c.in_ok-number-in-Number.ensures.built wid are form.1 form.2 form.3 in
      ok-map c.fitted.result (λ id b. built-as (λ sel. tree wid (look sel) (expr_of x) W) (built-of (fit W own) one b) (λ sel. sym (ap (λ z. tree wid (look sel) z W) form.0)))
      (c.fitted.ensures.built wid own one.grows.drafts one.place narrow most);
}

pub by_form-returns-in_ok-word-in-Read : goal.by_form-returns-in_ok-word-in-Read
by_form-returns-in_ok-word-in-Read t c = record {
  built = λ wid look are sees is l most.
      let x = c.args.e.now in
      let W = c.args.width in
      let own = c.in-Read.own in
      let form = of-Read wid x is c.in-Read.sig c.in-Read.at own c.in-Read.is in
      let narrow : own ≤ W = subst (λ z. size z ≤ W) form.0 l in
      let one = c.in_ok-word-in-Read.ensures.built wid look are sees form.1 form.2 in
      ok-map c.fitted-in-Read.result (λ id b. built-as (λ sel. tree wid (look sel) (expr_of x) W) (built-of (fit W own) one b) (λ sel. sym (ap (λ z. tree wid (look sel) z W) form.0)))
      (c.fitted-in-Read.ensures.built wid own one.grows.drafts one.place narrow most);
}

pub by_form-returns-in_ok-bit-in-At : goal.by_form-returns-in_ok-bit-in-At
by_form-returns-in_ok-bit-in-At t c = record {
  built = λ wid look are sees is l most.
      let x = c.args.e.now in
      let W = c.args.width in
      let old = c.args.drafts.now in
      let sig = c.in-At.sig in
      let y = c.deref.result.now in
      let form = of-At wid x is sig c.in-At.index c.in-At.width y c.in-At.is c.deref.ensures in
      let same : c.deref-in-At.result.now ≡ y = c.deref-in-At.ensures ∙ sym c.deref.ensures in
      let own : c.width_of.result ≡ size (expr_of y) = c.width_of.ensures.size (ap is_sized same ∙ form.1.sized) ∙ ap (λ z. size (expr_of z)) same in
      let range = size-range wid y form.1 in
      let whole = c.in_ok-whole-in-At.ensures.built wid look are sees form.2 in
      let m = c.whole.new.drafts in
      let by_y = subst (λ n. IsBuilt wid m c.tree.new.drafts c.in_ok-by-in-At.by n (λ sel. tree wid (look sel) (expr_of y) n)) own
      (c.in_ok-by-in-At.ensures.built wid look whole.grows.drafts (sees-later wid old m c.args.present.now look whole.grows.longer sees) form.1 (omega (arith, own)) (omega (arith, own, range.most))) in
      let bit = built-of_two (λ p q. Slice (Shr p q) 0 1) whole by_y
      (c.in_ok-bit-in-At.ensures.built wid (wid sig) by_y.grows.drafts (place-kept m c.tree.new.drafts c.in_ok-whole-in-At.whole (wid sig) by_y.grows.longer whole.place) by_y.place.0) in
      let narrow : 1 ≤ W = subst (λ z. size z ≤ W) form.0 l in
      ok-map c.fitted-in-At.result (λ id b. built-as (λ sel. tree wid (look sel) (expr_of x) W) (built-of (fit W 1) bit b) (λ sel. sym (ap (λ z. tree wid (look sel) z W) form.0)))
      (c.fitted-in-At.ensures.built wid 1 bit.grows.drafts bit.place narrow most);
}

pub by_form-returns-in_ok-operand-in-Unary : goal.by_form-returns-in_ok-operand-in-Unary
by_form-returns-in_ok-operand-in-Unary t c = record {
  built = λ wid look are sees is l most.
      let x = c.args.e.now in
      let W = c.args.width in
      let op = unary_of c.in-Unary.op in
      let y = c.deref-in-Unary-2.result.now in
      let form = of-Unary wid x is c.in-Unary.op c.in-Unary.a c.in-Unary.width y c.in-Unary.is c.deref-in-Unary-2.ensures in
      let same : c.deref-in-Unary.result.now ≡ y = c.deref-in-Unary.ensures ∙ sym c.deref-in-Unary-2.ensures in
      let n = size (expr_of y) in
      let own : c.width_of-in-Unary.result ≡ size (expr_of y) = c.width_of-in-Unary.ensures.size (ap is_sized same ∙ form.1.sized) ∙ ap (λ z. size (expr_of z)) same in
      let S = unary_at op W n in
      let at : c.operand_size-size.result ≡ unary_at op W n = c.operand_size-size.ensures ∙ ap (unary_at op W) own in
      let range = size-range wid y form.1 in
      let wide = size-range wid x is in
      let fits = unary-fits op W n (subst (λ z. size z ≤ W) form.0 l) range.most most in
      let one = subst (λ k. IsBuilt wid c.args.drafts.now c.tree-in-Unary.new.drafts c.in_ok-operand-in-Unary.operand k (λ sel. tree wid (look sel) (expr_of y) k)) at
      (c.in_ok-operand-in-Unary.ensures.built wid look are sees form.1 (subst (λ k. n ≤ k) (sym at) fits.0) (subst (λ k. k ≤ 64) (sym at) fits.1)) in
      ok-map c.unary.result (λ id b. built-as (λ sel. tree wid (look sel) (expr_of x) W) (built-of (unary_tree op W S) one b) (λ sel. sym (ap (λ z. tree wid (look sel) z W) form.0)))
      (c.unary.ensures.built wid n one.grows.drafts one.place (let s = wide.some in omega arith) most);
}

pub by_form-returns-in_ok-y-in-Binary : goal.by_form-returns-in_ok-y-in-Binary
by_form-returns-in_ok-y-in-Binary t c = record {
  built = λ wid look are sees is l most.
      let x = c.args.e.now in
      let W = c.args.width in
      let old = c.args.drafts.now in
      let op = binary_of c.in-Binary.op in
      let y = c.deref-in-Binary-3.result.now in
      let z = c.deref-in-Binary-4.result.now in
      let form = of-Binary wid x is c.in-Binary.op c.in-Binary.a c.in-Binary.b c.in-Binary.width y z c.in-Binary.is c.deref-in-Binary-3.ensures c.deref-in-Binary-4.ensures in
      let same_y : c.deref-in-Binary.result.now ≡ y = c.deref-in-Binary.ensures ∙ sym c.deref-in-Binary-3.ensures in
      let same_z : c.deref-in-Binary-2.result.now ≡ z = c.deref-in-Binary-2.ensures ∙ sym c.deref-in-Binary-4.ensures in
      let m = size (expr_of y) in
      let n = size (expr_of z) in
      let own_y : c.width_of-m.result ≡ size (expr_of y) = c.width_of-m.ensures.size (ap is_sized same_y ∙ form.1.sized) ∙ ap (λ v. size (expr_of v)) same_y in
      let own_z : c.width_of-n.result ≡ size (expr_of z) = c.width_of-n.ensures.size (ap is_sized same_z ∙ form.2.sized) ∙ ap (λ v. size (expr_of v)) same_z in
      let L = left_at op W m n in
      let R = right_at op W m n in
      let at_left : c.left_size-left.result ≡ left_at op W m n = c.left_size-left.ensures ∙ ap₂ (left_at op W) own_y own_z in
      let at_right : c.right_size-right.result ≡ right_at op W m n = c.right_size-right.ensures ∙ ap₂ (right_at op W) own_y own_z in
      let range_y = size-range wid y form.1 in
      let range_z = size-range wid z form.2 in
      let wide = size-range wid x is in
      let fits = binary-fits op W m n (subst (λ v. size v ≤ W) form.0 l) range_y.most range_z.most most in
      let mid = c.tree-in-Binary.new.drafts in
      let one = subst (λ k. IsBuilt wid old mid c.in_ok-x-in-Binary.x k (λ sel. tree wid (look sel) (expr_of y) k)) at_left
      (c.in_ok-x-in-Binary.ensures.built wid look are sees form.1 (subst (λ k. m ≤ k) (sym at_left) fits.0) (subst (λ k. k ≤ 64) (sym at_left) fits.1)) in
      let two = subst (λ k. IsBuilt wid mid c.tree-in-Binary-2.new.drafts c.in_ok-y-in-Binary.y k (λ sel. tree wid (look sel) (expr_of z) k)) at_right
      (c.in_ok-y-in-Binary.ensures.built wid look one.grows.drafts (sees-later wid old mid c.args.present.now look one.grows.longer sees) form.2 (subst (λ k. n ≤ k) (sym at_right) fits.2) (subst (λ k. k ≤ 64) (sym at_right) fits.3)) in
      ok-map c.binary.result (λ id b. built-as (λ sel. tree wid (look sel) (expr_of x) W) (built-of_two (binary_tree op W L R) one two b) (λ sel. sym (ap (λ v. tree wid (look sel) v W) form.0)))
      (c.binary.ensures.built wid m n two.grows.drafts (place-kept mid c.tree-in-Binary-2.new.drafts c.in_ok-x-in-Binary.x L two.grows.longer one.place) two.place (let s = wide.some in omega arith) most);
}

pub by_form-returns-in_ok-other-in-Choose : goal.by_form-returns-in_ok-other-in-Choose
by_form-returns-in_ok-other-in-Choose t c = record {
  built = λ wid look are sees is l most.
      let x = c.args.e.now in
      let W = c.args.width in
      let old = c.args.drafts.now in
      let p = c.args.present.now in
      let w = c.deref-in-Choose.result.now in
      let y = c.deref-in-Choose-3.result.now in
      let z = c.deref-in-Choose-4.result.now in
      let form = of-Choose wid x is c.in-Choose.cond c.in-Choose.yes c.in-Choose.other c.in-Choose.width w y z c.in-Choose.is c.deref-in-Choose.ensures c.deref-in-Choose-3.ensures c.deref-in-Choose-4.ensures in
      let same : c.deref-in-Choose-2.result.now ≡ w = c.deref-in-Choose-2.ensures ∙ sym c.deref-in-Choose.ensures in
      let own : c.width_of-in-Choose.result ≡ size (expr_of w) = c.width_of-in-Choose.ensures.size (ap is_sized same ∙ form.1.sized) ∙ ap (λ v. size (expr_of v)) same in
      let range = size-range wid w form.1 in
      let fits = subst (λ v. size v ≤ W) form.0 l in
      let m = c.tree-in-Choose.new.drafts in
      let word = subst (λ n. IsBuilt wid old m c.in_ok-word-in-Choose.word n (λ sel. tree wid (look sel) (expr_of w) n)) own
      (c.in_ok-word-in-Choose.ensures.built wid look are sees form.1 (omega (arith, own)) (omega (arith, own, range.most))) in
      let cond_is = built-of (truth (size (expr_of w))) word (c.in_ok-cond-in-Choose.ensures.built wid (size (expr_of w)) word.grows.drafts word.place) in
      let n = c.truth.new.self in
      let o = c.tree-in-Choose-2.new.drafts in
      let q = c.tree-in-Choose-3.new.drafts in
      let sees_n = sees-later wid old n p look cond_is.grows.longer sees in
      let chosen_is = c.in_ok-yes-in-Choose.ensures.built wid look cond_is.grows.drafts sees_n form.2 (omega (arith, fits)) most in
      let other_is = c.in_ok-other-in-Choose.ensures.built wid look chosen_is.grows.drafts (sees-later wid n o p look chosen_is.grows.longer sees_n) form.3 (omega (arith, fits)) most in
      let cond_place = place-kept n q c.in_ok-cond-in-Choose.cond 1 (still-longer n o q chosen_is.grows.longer other_is.grows.longer) cond_is.place in
      let chosen_place = place-kept o q c.in_ok-yes-in-Choose.yes W other_is.grows.longer chosen_is.place in
      ok-map c.add.result (λ id b. built-as (λ sel. tree wid (look sel) (expr_of x) W) (built-of_three Mux cond_is chosen_is other_is b) (λ sel. sym (ap (λ v. tree wid (look sel) v W) form.0)))
      (c.add.ensures.built wid W other_is.grows.drafts (sym chosen_place.1, cond_place.0, cond_place.1, (chosen_place.0, other_is.place.0, chosen_place.1 ∙ sym other_is.place.1)));
}

pub by_form-returns-in-Gate : goal.by_form-returns-in-Gate
by_form-returns-in-Gate t c = record {
  built = λ wid look are sees is l most.
      let x = c.args.e.now in
      let W = c.args.width in
      let form = of-Gate wid x is c.in-Gate.op c.in-Gate.inputs c.as_slice.result.now c.in-Gate.is c.as_slice.ensures in
      let some : 1 ≤ W = subst (λ z. size z ≤ W) form.0 l in
      ok-map c.gate.result (λ id b. built-as (λ sel. tree wid (look sel) (expr_of x) W) b (λ sel. sym (ap (λ z. tree wid (look sel) z W) form.0)))
      (c.gate.ensures.built wid look are sees form.1 form.2 (let h = form.3 in omega arith) some most);
}

pub by_form-returns-in_ok-word-in-Join : goal.by_form-returns-in_ok-word-in-Join
by_form-returns-in_ok-word-in-Join t c = record {
  built = λ wid look are sees is l most.
      let x = c.args.e.now in
      let W = c.args.width in
      let ys = c.as_slice-in-Join.result.now in
      let form = of-Join wid x is c.in-Join.parts ys c.in-Join.width c.in-Join.is c.as_slice-in-Join.ensures in
      let n = sizes (exprs_of (map expr_of ys)) in
      let range = size-range wid x is in
      let one = c.in_ok-word-in-Join.ensures.built wid look are sees form.1 (subst (λ z. 1 ≤ size z) form.0 range.some) (subst (λ z. size z ≤ 64) form.0 range.most) in
      ok-map c.fitted-in-Join.result (λ id b. built-as (λ sel. tree wid (look sel) (expr_of x) W) (built-of (fit W n) one b) (λ sel. sym (ap (λ z. tree wid (look sel) z W) form.0)))
      (c.fitted-in-Join.ensures.built wid n one.grows.drafts one.place (subst (λ z. size z ≤ W) form.0 l) most);
}

pub by_form-returns-in_ok-copies-in-Repeat : goal.by_form-returns-in_ok-copies-in-Repeat
by_form-returns-in_ok-copies-in-Repeat t c = record {
  built = λ wid look are sees is l most.
      let x = c.args.e.now in
      let W = c.args.width in
      let count = c.in-Repeat.count in
      let ys = c.as_slice-in-Repeat.result.now in
      let form = of-Repeat wid x is count c.in-Repeat.parts ys c.in-Repeat.width c.in-Repeat.is c.as_slice-in-Repeat.ensures in
      let n = sizes (exprs_of (map expr_of ys)) in
      let range = size-range wid x is in
      let both = factors count n (subst (λ z. 1 ≤ size z) form.0 range.some) in
      let one = c.in_ok-word-in-Repeat.ensures.built wid look are sees form.1 both.1 form.2 in
      let two = built-of (copies_tree count n) one (c.in_ok-copies-in-Repeat.ensures.built wid n one.grows.drafts one.place both.0 (subst (λ z. size z ≤ 64) form.0 range.most)) in
      ok-map c.fitted-in-Repeat.result (λ id b. built-as (λ sel. tree wid (look sel) (expr_of x) W) (built-of (fit W (count * n)) two b) (λ sel. sym (ap (λ z. tree wid (look sel) z W) form.0)))
      (c.fitted-in-Repeat.ensures.built wid (count * n) two.grows.drafts two.place (subst (λ z. size z ≤ W) form.0 l) most);
}

-- ---- lists

pub gate-returns-in_default : goal.gate-returns-in_default
gate-returns-in_default t c = record {
  built = λ wid look are sees is g l some most.
      let op = binary_of c.args.op in
      let W = c.args.width in
      let e : c.args.inputs.now ≡ [] = nil_from_length c.args.inputs.now c.in_default.ensures.cases in
      ok-map c.constant.result
      (λ id b. built-as (λ sel. gate_tree wid (look sel) op W (views c.args.inputs.now)) b (λ sel. sym (ap (λ xs. gate_tree wid (look sel) op W (views xs)) e)))
      (c.constant.ensures.built wid are some most (pow_pos W));
}

pub gate-loop-input-init : goal.gate-loop-input-init
gate-loop-input-init t c = λ wid look are sees is g l some most.
    let first = c.in-Some.first.now in
    let others = c.in-Some.others.now in
    let e : c.args.inputs.now ≡ first ∷ others = c.in-Some.ensures.cases.0 in
    let read = first-read wid first others (subst (AreRead wid) e is) in
    let fits = subst (λ xs. largest (views xs) ≤ c.args.width) e l in
    first-input wid look c.args.drafts.now (binary_of c.args.op) c.args.width c.args.inputs.now c.tree.new.drafts first others c.in_ok-word.word e read.1 (omega (arith, fits))
    (c.in_ok-word.ensures.built wid look are sees read.0 (omega (arith, fits)) most)

pub gate-loop-input-preserved : goal.gate-loop-input-preserved
gate-loop-input-preserved t c = λ wid look are sees is g l some most.
    let old = c.args.drafts.now in
    let ds = c.loop-input.drafts in
    let mid = c.tree-in-loop-input.new.drafts in
    let op = binary_of c.args.op in
    let W = c.args.width in
    let x = c.input-item.result in
    let i = c.loop-input.input-index in
    let others = c.in-Some.others.now in
    let so_far = c.loop-input.invariant wid look are sees is g l some most in
    let next : drop i others ≡ x ∷ drop (i + 1) others = drop_more others i x c.loop-input-test.true ∙ ap (λ (k : FExpr). k ∷ drop (i + 1) others) (sym c.input-item.is) in
    let read = first-read wid x (drop (i + 1) others) (subst (AreRead wid) next so_far.read) in
    let fits = subst (λ xs. largest (views xs) ≤ W) next so_far.fits in
    let input = c.in_ok-next.ensures.built wid look so_far.grows.drafts (sees-later wid old ds c.args.present.now look so_far.grows.longer sees) read.0 (omega (arith, fits)) most in
    let same = gate-sizes op g W W W in
    next-input wid look old op W c.args.inputs.now ds mid c.binary.new.drafts x (drop i others) (drop (i + 1) others) c.loop-input.word c.in_ok-next.next c.in_ok-word-2.word g so_far next input
    (c.in_ok-word-2.ensures.built wid W W input.grows.drafts
    (subst (IsDraftOf mid c.loop-input.word) (sym same.0) (place-kept ds mid c.loop-input.word W input.grows.longer so_far.place)) (subst (IsDraftOf mid c.in_ok-next.next) (sym same.1) input.place) some most)

pub gate-returns : goal.gate-returns
gate-returns t c = record {
  built = λ wid look are sees is g l some most.
      let so_far = c.loop-input.invariant wid look are sees is g l some most in
      let e : drop c.loop-input.input-index c.in-Some.others.now ≡ [] = drop_all c.loop-input.input-index c.in-Some.others.now c.loop-input-test.false in
      record {
        grows = so_far.grows;
        place = so_far.place;
        tree = λ sel. sym (so_far.tree sel ∙ ap (λ xs. gate_on wid (look sel) (binary_of c.args.op) c.args.width (tree_in sel c.loop-input.drafts c.loop-input.word) (views xs)) e);
      };
}

pub join-loop-part-init : goal.join-loop-part-init
join-loop-part-init t c = λ wid look are sees is. no-part wid look c.args.drafts.now c.args.parts.now c.new-words.result.items c.new-words.ensures.items are is

pub join-loop-part-preserved : goal.join-loop-part-preserved
join-loop-part-preserved t c = λ wid look are sees is.
    let old = c.args.drafts.now in
    let ds = c.loop-part.drafts in
    let parts = c.args.parts.now in
    let x = c.part-item.result in
    let i = c.loop-part.part-index in
    let so_far = c.loop-part.invariant wid look are sees is in
    let next : drop i parts ≡ x ∷ drop (i + 1) parts = drop_more parts i x c.loop-part-test.true ∙ ap (λ (k : FExpr). k ∷ drop (i + 1) parts) (sym c.part-item.is) in
    let read = first-read wid x (drop (i + 1) parts) (subst (AreRead wid) next so_far.read) in
    let own : c.width_of.result ≡ size (expr_of x) = c.width_of.ensures.size read.0.sized in
    let range = size-range wid x read.0 in
    let word = subst (λ n. IsBuilt wid ds c.tree.new.drafts c.in_ok-word.word n (λ sel. tree wid (look sel) (expr_of x) n)) own
    (c.in_ok-word.ensures.built wid look so_far.grows.drafts (sees-later wid old ds c.args.present.now look so_far.grows.longer sees) read.0 (omega (arith, own)) (omega (arith, own, range.most))) in
    next-part wid look old parts ds c.tree.new.drafts (drop i parts) (drop (i + 1) parts) x c.loop-part.words.items c.push.new.items.items c.in_ok-word.word so_far next word c.in_ok-push.ensures

pub join-returns : goal.join-returns
join-returns t c = record {
  built = λ wid look are sees is some most.
      let old = c.args.drafts.now in
      let ds = c.loop-part.drafts in
      let so_far = c.loop-part.invariant wid look are sees is in
      let done = all-parts wid look old c.args.parts.now ds (drop c.loop-part.part-index c.args.parts.now) c.loop-part.words.items so_far (drop_all c.loop-part.part-index c.args.parts.now c.loop-part-test.false) in
      ok-map c.joined.result
      (λ id b. built-after so_far.grows (built-as (λ sel. joined_tree wid (look sel) (exprs_of (map expr_of c.args.parts.now)))
      (subst (λ n. IsBuilt wid ds c.joined.new.self id n (λ sel. joined_in sel ds c.loop-part.words.items)) (sym done.0) b) (λ sel. sym (done.1 sel))))
      (c.joined.ensures.built wid so_far.grows.drafts so_far.there (subst (λ n. 1 ≤ n) done.0 some) (subst (λ n. n ≤ 64) done.0 most));
}
