-- The labels are compared one after another.
use Rattle.std.proofs.Common.{arith, ◌≡◌, ◌+◌, ◌≤◌, [], ◌∷◌, drop, sym, ap, subst, ◌∙◌}
use Rattle.std.proofs.lemmas.List.{drop_more, drop_all, nil_from_length}
use Rattle.std.proofs.lemmas.Nat.{pow_pos}
use Rattle.flat_form.specs.declared.flat.FExpr.{FExpr}
use Rattle.flat_meaning.specs.Flat.{largest}
use Rattle.flat_meaning.specs.Trees.{label_tree, any_label}
use Rattle.driver_trees.specs.Drafts.{tree_in}
use Rattle.driver_trees.specs.Presents.{AreRead}
use Rattle.driver_trees.proofs.Growing.{ok-map, built-as, place-kept}
use Rattle.driver_trees.proofs.Forms.{first-read}
use Rattle.driver_trees.proofs.Parts.{views}
use Rattle.driver_trees.proofs.Seen.{sees-later}
use Rattle.driver_trees.proofs.Cases.{word_later, first-label, next-label}
use Rattle.driver_trees.proofs.process.condition.Goals as goal

pub returns-in_default : goal.returns-in_default
returns-in_default c = record {
  built = λ wid look t are sees is l most word.
      let e : c.args.labels.now ≡ [] = nil_from_length c.args.labels.now c.in_default.ensures.cases in
      ok-map c.constant.result
      (λ id b. built-as (λ sel. label_tree wid (look sel) c.args.size (t sel) (views c.args.labels.now)) b (λ sel. sym (ap (λ xs. label_tree wid (look sel) c.args.size (t sel) (views xs)) e)))
      (c.constant.ensures.built wid are (omega arith) (omega arith) (pow_pos 1));
}

pub loop-label-init : goal.loop-label-init
loop-label-init c = λ wid look t are sees is l most word.
    let first = c.in-Some.first.now in
    let others = c.in-Some.others.now in
    let e : c.args.labels.now ≡ first ∷ others = c.in-Some.ensures.cases.0 in
    let read = first-read wid first others (subst (AreRead wid) e is) in
    let fits = subst (λ xs. largest (views xs) ≤ c.args.size) e l in
    first-label wid look c.args.drafts.now c.args.size t c.args.labels.now c.equals.new.drafts first others c.in_ok-any.any e read.1 (omega (arith, fits))
    (c.in_ok-any.ensures.built wid look t are sees read.0 (omega (arith, fits)) most word)

pub loop-label-preserved : goal.loop-label-preserved
loop-label-preserved c = λ wid look t are sees is l most word.
    let old = c.args.drafts.now in
    let ds = c.loop-label.drafts in
    let mid = c.equals-in-loop-label.new.drafts in
    let x = c.label-item.result in
    let i = c.loop-label.label-index in
    let others = c.in-Some.others.now in
    let so_far = c.loop-label.invariant wid look t are sees is l most word in
    let next : drop i others ≡ x ∷ drop (i + 1) others = drop_more others i x c.loop-label-test.true ∙ ap (λ (k : FExpr). k ∷ drop (i + 1) others) (sym c.label-item.is) in
    let read = first-read wid x (drop (i + 1) others) (subst (AreRead wid) next so_far.read) in
    let fits = subst (λ xs. largest (views xs) ≤ c.args.size) next so_far.room in
    let one = c.in_ok-equal.ensures.built wid look t so_far.grows.drafts (sees-later wid old ds c.args.present.now look so_far.grows.longer sees) read.0 (omega (arith, fits)) most
    (word_later old ds c.args.word c.args.size t so_far.grows.longer word) in
    let any = place-kept ds mid c.loop-label.any 1 one.grows.longer so_far.place in
    next-label wid look old c.args.size t c.args.labels.now ds mid c.add.new.self x (drop i others) (drop (i + 1) others) c.loop-label.any c.in_ok-equal.equal c.in_ok-any-2.any so_far next one
    (c.in_ok-any-2.ensures.built wid 1 one.grows.drafts (sym any.1, (any.0, one.place.0, any.1 ∙ sym one.place.1)))

pub returns : goal.returns
returns c = record {
  built = λ wid look t are sees is l most word.
      let so_far = c.loop-label.invariant wid look t are sees is l most word in
      let e : drop c.loop-label.label-index c.in-Some.others.now ≡ [] = drop_all c.loop-label.label-index c.in-Some.others.now c.loop-label-test.false in
      record {
        grows = so_far.grows;
        place = so_far.place;
        tree = λ sel. sym (so_far.tree sel ∙ ap (λ xs. any_label wid (look sel) c.args.size (t sel) (tree_in sel c.loop-label.drafts c.loop-label.any) (views xs)) e);
      };
}
