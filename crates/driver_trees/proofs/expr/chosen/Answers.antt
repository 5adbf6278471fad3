-- The choices are taken from the innermost.
use Rattle.std.proofs.Common.{rules, ◌≡◌, [], ◌∷◌, ◌++◌, refl, sym, ap, ◌∙◌, arith}
use Rattle.driver_trees.specs.Drafts.{tree_in}
use Rattle.driver_trees.specs.Choices.{around_tree}
use Rattle.driver_trees.proofs.Growing.{place-kept, same-longer}
use Rattle.driver_trees.proofs.Around.{next-choice, one-chosen}
use Rattle.driver_trees.proofs.expr.chosen.Goals as goal

pub loop-choice-init : goal.loop-choice-init
loop-choice-init c = λ wid w are is cs. record { grows = record { longer = same-longer c.args.drafts.now; drafts = are }; choices = cs; place = is; tree = λ sel. refl }

pub loop-choice-smaller : goal.loop-choice-smaller
loop-choice-smaller c = let e = c.in-Some.ensures.cases in omega arith

pub loop-choice-preserved : goal.loop-choice-preserved
loop-choice-preserved c = λ wid w are is cs.
    let old = c.args.drafts.now in
    let ds = c.loop-choice.drafts in
    let d = c.in-Some.choice in
    let so_far = c.loop-choice.invariant wid w are is cs in
    let e : c.loop-choice.left.items ≡ c.pop.new.self.items ++ d ∷ [] = c.in-Some.ensures.items in
    let next = next-choice c.pop.new.self.items d so_far e in
    let cond_is = place-kept old ds d.cond 1 so_far.grows.longer next.1.0 in
    let chosen_is = place-kept old ds d.yes w so_far.grows.longer next.1.1 in
    one-chosen c.pop.new.self.items d so_far e
    (c.in_ok-word.ensures.built wid w so_far.grows.drafts (sym chosen_is.1, cond_is.0, cond_is.1, (chosen_is.0, so_far.place.0, chosen_is.1 ∙ sym so_far.place.1)))

pub returns : goal.returns
returns c = record {
  built = λ wid w are is cs.
      let so_far = c.loop-choice.invariant wid w are is cs in
      let e : c.loop-choice.left.items ≡ [] = search rules in
      record {
        grows = so_far.grows;
        place = so_far.place;
        tree = λ sel. sym (so_far.tree sel ∙ ap (λ xs. around_tree sel c.args.drafts.now xs (tree_in sel c.loop-choice.drafts c.loop-choice.word)) e);
      };
}
