-- Each signal's choice is added.
use Rattle.std.proofs.Common.{◌≡◌, ℕ, Bool, true, false, ◌||◌, ◌==◌, ◌∷◌, [], Some, None, is_some, IsSomeAnd, refl, sym, ap, subst, ◌∙◌}
use Rattle.std.proofs.Math.Bool.{or-false}
use Rattle.std.proofs.lemmas.Cmp.{nat_cmp_total}
use Rattle.std.proofs.lemmas.Map.Iter.{rest_more, rest_all, btree_map_turn}
use Rattle.std.specs.Ordering.{nat_cmp}
use Rattle.std.specs.Map.{lookup}
use Rattle.std.specs.Map.Iter.{deref_pair}
use Rattle.std.specs.BTreeMap.{get, is_at}
use Rattle.cell_graph.specs.declared.cell.CellId.{CellId}
use Rattle.driver_trees.specs.Presents.{is_target}
use Rattle.driver_trees.specs.Changes.{IsWordOf, chosen}
use Rattle.driver_trees.proofs.Maps.{keys_first, put_keys, put_holds}
use Rattle.driver_trees.proofs.Merges.{some_and, changes_same}
use Rattle.driver_trees.proofs.Growing.{still-grows}
use Rattle.driver_trees.proofs.Stays.{word_grows, leaves_grow, condition_grows}
use Rattle.driver_trees.proofs.present.Present.choose.Goals as goal

pub loop-sig-preserved-in-Continue-branch-3 : goal.loop-sig-preserved-in-Continue-branch-3
loop-sig-preserved-in-Continue-branch-3 c = λ wid p t ts us drafts condition yes other targets changes.
    let i = c.loop-sig.invariant wid p t ts us drafts condition yes other targets changes in
    let k = c.in-Some.sig.now in
    let gives = c.into_iter-sig-iterator.ensures.into_iter_gives in
    let turn = btree_map_turn (deref_pair {K = ℕ} {X = CellId}) c.loop-sig.yielded c.into_iter-sig-iterator.result c.loop-sig.sig-iterator c.next.new.self c.next.result (c.in-Some.sig, c.in-Some.field-0-1)
    c.loop-sig.yielded_by c.in-Some.is c.next.ensures.steps nat_cmp_total c.args.some.now gives.0 gives.5 in
    let first = rest_more (deref_pair {K = ℕ} {X = CellId}) c.loop-sig.sig-iterator c.next.new.self c.next.result (c.in-Some.sig, c.in-Some.field-0-1) c.in-Some.is c.next.ensures.steps in
    let made = c.in_ok-tree.ensures.chosen wid t ts us i.0.drafts (condition_grows wid c.args.drafts.now c.loop-sig.drafts i.0 c.args.cond t condition)
    (leaves_grow wid c.args.drafts.now c.loop-sig.drafts i.0 c.args.self.now c.args.yes.now ts yes) (leaves_grow wid c.args.drafts.now c.loop-sig.drafts i.0 c.args.self.now c.args.other.now us other)
    (targets k (ap is_some turn.1)) in
    let word = some_and c.in_ok-tree.field-0 (λ id. IsWordOf wid c.choice.new.drafts id k (chosen t ts us)) c.in-Some-2.tree c.in-Some-2.is made.1 in (
      still-grows wid c.args.drafts.now c.loop-sig.drafts c.choice.new.drafts i.0 made.0,
      λ x. i.1 x || (x == k),
      record {
        keys = λ x. put_keys k c.in-Some-2.tree (get nat_cmp c.loop-sig.merged) (get nat_cmp c.insert.new.entries) c.in_ok-insert.ensures.0 x (i.1 x) (i.2.keys x);
        trees = put_holds k c.in-Some-2.tree (get nat_cmp c.loop-sig.merged) (get nat_cmp c.insert.new.entries) c.in_ok-insert.ensures.0 (λ x id. IsWordOf wid c.choice.new.drafts id x (chosen t ts us)) word
            (λ x id e. word_grows wid c.loop-sig.drafts c.choice.new.drafts made.0 id x (chosen t ts us) (i.2.trees x id e));
      },
      λ x. keys_first x k c.in-Some.field-0-1.now c.loop-sig.sig-iterator c.next.new.self (i.1 x) _ first (i.3 x),
    )

pub loop-sig-preserved-in_default : goal.loop-sig-preserved-in_default
loop-sig-preserved-in_default c = λ wid p t ts us drafts condition yes other targets changes.
    let i = c.loop-sig.invariant wid p t ts us drafts condition yes other targets changes in
    let k = c.in-Some.sig.now in
    let gives = c.into_iter-sig-iterator.ensures.into_iter_gives in
    let turn = btree_map_turn (deref_pair {K = ℕ} {X = CellId}) c.loop-sig.yielded c.into_iter-sig-iterator.result c.loop-sig.sig-iterator c.next.new.self c.next.result (c.in-Some.sig, c.in-Some.field-0-1)
    c.loop-sig.yielded_by c.in-Some.is c.next.ensures.steps nat_cmp_total c.args.some.now gives.0 gives.5 in
    let made = c.in_ok-tree.ensures.chosen wid t ts us i.0.drafts (condition_grows wid c.args.drafts.now c.loop-sig.drafts i.0 c.args.cond t condition)
    (leaves_grow wid c.args.drafts.now c.loop-sig.drafts i.0 c.args.self.now c.args.yes.now ts yes) (leaves_grow wid c.args.drafts.now c.loop-sig.drafts i.0 c.args.self.now c.args.other.now us other)
    (targets k (ap is_some turn.1)) in
    absurd (subst (λ o. IsSomeAnd o (λ id. IsWordOf wid c.choice.new.drafts id k (chosen t ts us))) c.in_default.is made.1)

pub returns : goal.returns
returns c = record {
  chosen = λ wid p t ts us drafts condition yes other targets changes.
      let i = c.loop-sig.invariant wid p t ts us drafts condition yes other targets changes in
      let all = rest_all (deref_pair {K = ℕ} {X = CellId}) c.loop-sig.sig-iterator c.next.new.self c.next.result c.in-None.is c.next.ensures.steps in
      (i.0, changes_same wid c.loop-sig.drafts c.loop-sig.merged i.1 _ (chosen t ts us) i.2 (λ x. sym (or-false (i.1 x)) ∙ ap (λ es. i.1 x || is_some (lookup (is_at (nat_cmp x)) es)) (sym all) ∙ i.3 x));
}
