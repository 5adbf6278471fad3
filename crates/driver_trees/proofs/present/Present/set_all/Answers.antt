-- Each change is assigned.
use Rattle.std.proofs.Common.{◌≡◌, ℕ, Bool, true, false, cond, ◌||◌, ◌==◌, ◌∷◌, Some, is_some, refl, sym, ap, ◌∙◌}
use Rattle.std.proofs.lemmas.Cmp.{nat_cmp_total}
use Rattle.std.proofs.lemmas.Map.Iter.{rest_more, btree_map_turn}
use Rattle.std.specs.Ordering.{nat_cmp}
use Rattle.std.specs.Map.{lookup}
use Rattle.std.specs.Map.Iter.{deref_pair}
use Rattle.std.specs.BTreeMap.{get, is_at}
use Rattle.cell_graph.specs.declared.cell.CellId.{CellId}
use Rattle.driver_trees.specs.Presents.{present_of, is_target}
use Rattle.driver_trees.specs.Changes.{Assigns}
use Rattle.driver_trees.proofs.Maps.{keys_first, set_first}
use Rattle.driver_trees.proofs.Steps.{assigns_none, assigns_more}
use Rattle.driver_trees.proofs.present.Present.set_all.Goals as goal

pub loop-sig-init : goal.loop-sig-init
loop-sig-init c = λ h. (λ x. false, assigns_none c.args.self.now, λ x. ap (λ es. is_some (lookup (is_at (nat_cmp x)) es)) c.into_iter-sig-iterator.ensures.into_iter_gives.0, λ x. refl)

pub loop-sig-preserved : goal.loop-sig-preserved
loop-sig-preserved c = λ h.
    let i = c.loop-sig.invariant h in
    let k = c.in-Some.sig.now in
    let gives = c.into_iter-sig-iterator.ensures.into_iter_gives in
    let turn = btree_map_turn (deref_pair {K = ℕ} {X = CellId}) c.loop-sig.yielded c.into_iter-sig-iterator.result c.loop-sig.sig-iterator c.next.new.self c.next.result (c.in-Some.sig, c.in-Some.tree)
    c.loop-sig.yielded_by c.in-Some.is c.next.ensures.steps nat_cmp_total c.args.changes.now gives.0 gives.5 in
    let first = rest_more (deref_pair {K = ℕ} {X = CellId}) c.loop-sig.sig-iterator c.next.new.self c.next.result (c.in-Some.sig, c.in-Some.tree) c.in-Some.is c.next.ensures.steps in
    let is : is_target c.loop-sig.self k ≡ true = i.1.targets k ∙ h k (ap is_some turn.1) in (
      λ x. i.0 x || (x == k),
      assigns_more c.args.self.now c.loop-sig.self c.set.new.self i.0 (λ x. x == k) i.1 (c.in_ok-set.ensures.assigns is),
      λ x. keys_first x k c.in-Some.tree.now c.loop-sig.sig-iterator c.next.new.self (i.0 x) _ first (i.2 x),
      λ x. set_first x k c.in-Some.tree.now (i.0 x) (get nat_cmp c.args.changes.now x) (present_of c.args.self.now x) (present_of c.loop-sig.self x) (present_of c.set.new.self x)
          (λ e. ap (get nat_cmp c.args.changes.now) e ∙ turn.1) (i.3 x) (c.in_ok-set.ensures.tree is x),
    )
