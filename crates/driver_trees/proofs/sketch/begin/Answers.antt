-- Each signal begins with its first tree.
use Rattle.std.proofs.Common.{◌≡◌, ℕ, Bool, false, ◌||◌, ◌==◌, ◌∷◌, is_some, sym, ap, ◌∙◌}
use Rattle.std.proofs.Math.Bool.{or-false}
use Rattle.std.proofs.lemmas.Cmp.{nat_cmp_total}
use Rattle.std.proofs.lemmas.Map.Iter.{rest_more, rest_all, btree_map_turn}
use Rattle.std.specs.Ordering.{nat_cmp}
use Rattle.std.specs.Map.{lookup}
use Rattle.std.specs.Map.Iter.{deref_pair}
use Rattle.std.specs.BTreeMap.{get, is_at}
use Rattle.driver_trees.specs.Sketched.{begin_tree}
use Rattle.driver_trees.proofs.Growing.{still-grows}
use Rattle.driver_trees.proofs.Stays.{grows_not}
use Rattle.driver_trees.proofs.Maps.{keys_first}
use Rattle.driver_trees.proofs.Begun.{begins, idle_begun, process_of}
use Rattle.driver_trees.proofs.sketch.begin.Goals as goal

pub loop-sig-init : goal.loop-sig-init
loop-sig-init c = (
  c.begin.ensures.blocking,
  λ wid drafts idle. (
    grows_not wid c.args.drafts.now drafts,
    λ x. false,
    begins wid c.args.drafts.now c.begin.new.self (begin_tree c.args.blocking (λ x. is_some (get nat_cmp c.args.assigned.now x)) wid) idle drafts,
    λ x. ap (λ es. is_some (lookup (is_at (nat_cmp x)) es)) c.into_iter-sig-iterator.ensures.into_iter_gives.0,
  ),
)

pub loop-sig-preserved : goal.loop-sig-preserved
loop-sig-preserved c = (
  c.start.ensures.blocking ∙ c.loop-sig.invariant.0,
  λ wid drafts idle.
      let i = c.loop-sig.invariant.1 wid drafts idle in
      let k = c.in-Some.sig.now in
      let gives = c.into_iter-sig-iterator.ensures.into_iter_gives in
      let turn = btree_map_turn (deref_pair {K = ℕ} {X = ℕ}) c.loop-sig.yielded c.into_iter-sig-iterator.result c.loop-sig.sig-iterator c.next.new.self c.next.result (c.in-Some.sig, c.in-Some.field-0-1)
      c.loop-sig.yielded_by c.in-Some.is c.next.ensures.steps nat_cmp_total c.args.assigned.now gives.0 gives.5 in
      let first = rest_more (deref_pair {K = ℕ} {X = ℕ}) c.loop-sig.sig-iterator c.next.new.self c.next.result (c.in-Some.sig, c.in-Some.field-0-1) c.in-Some.is c.next.ensures.steps in
      let r = c.in_ok-start.ensures.starts wid (λ x. is_some (get nat_cmp c.args.assigned.now x)) i.1 i.2 (ap is_some turn.1) in (
        still-grows wid c.args.drafts.now c.loop-sig.drafts c.start.new.drafts i.0 r.0,
        λ x. i.1 x || (x == k),
        r.1,
        λ x. keys_first x k c.in-Some.field-0-1.now c.loop-sig.sig-iterator c.next.new.self (i.1 x) _ first (i.3 x),
      ),
)

pub returns-clause-begins : goal.returns-clause-begins
returns-clause-begins c = λ wid drafts idle.
    let i = c.loop-sig.invariant.1 wid drafts (idle_begun wid c.args.present.now c.begin.new.self idle c.begin.ensures.trees c.begin.ensures.widths) in
    let all = rest_all (deref_pair {K = ℕ} {X = ℕ}) c.loop-sig.sig-iterator c.next.new.self c.next.result c.in-None.is c.next.ensures.steps in (
      i.0,
      process_of wid c.loop-sig.drafts c.loop-sig.present i.1 (λ x. is_some (get nat_cmp c.args.assigned.now x)) _ i.2
          (λ x. sym (or-false (i.1 x)) ∙ ap (λ es. i.1 x || is_some (lookup (is_at (nat_cmp x)) es)) (sym all) ∙ i.3 x),
    )
