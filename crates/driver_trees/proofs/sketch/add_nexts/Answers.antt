-- Each register gets the last tree that it has in the process.
use Rattle.std.proofs.Common.{◌≡◌, ℕ, is_some, unwrap_or, slice_get, refl, ap, ◌∙◌}
use Rattle.std.proofs.lemmas.Cmp.{nat_cmp_total}
use Rattle.std.proofs.lemmas.Map.Iter.{rest_more, rest_all, btree_map_turn}
use Rattle.std.specs.Ordering.{nat_cmp}
use Rattle.std.specs.Map.{lookup}
use Rattle.std.specs.Map.Iter.{deref_pair}
use Rattle.std.specs.BTreeMap.{get, is_at}
use Rattle.driver_trees.specs.Presents.{present_of}
use Rattle.driver_trees.specs.Sketched.{givers_in, clock_at}
use Rattle.driver_trees.proofs.Drafted.{still_left}
use Rattle.driver_trees.proofs.Begun.{idle_again, all_ended, givers_taken, clock_taken, givers_end, clocks_end}
use Rattle.driver_trees.proofs.sketch.add_nexts.Goals as goal

pub loop-sig-init : goal.loop-sig-init
loop-sig-init c = (refl, λ h. (λ x s. ap (λ es. is_some (lookup (is_at (nat_cmp x)) es)) c.into_iter-sig-iterator.ensures.into_iter_gives.0 ∙ h x s, λ x. refl, λ x. refl))

pub loop-sig-preserved : goal.loop-sig-preserved
loop-sig-preserved c =
    let i = c.loop-sig.invariant in let k = c.in-Some.sig.now in let v = c.in-Some.bits.now in let p = c.loop-sig.present in let q = c.add_next.new.present in
    let gives = c.into_iter-sig-iterator.ensures.into_iter_gives in let bits = λ (x : ℕ). unwrap_or (get nat_cmp c.args.assigned.now x) 0 in
    let turn = btree_map_turn (deref_pair {K = ℕ} {X = ℕ}) c.loop-sig.yielded c.into_iter-sig-iterator.result c.loop-sig.sig-iterator c.next.new.self c.next.result (c.in-Some.sig, c.in-Some.bits)
    c.loop-sig.yielded_by c.in-Some.is c.next.ensures.steps nat_cmp_total c.args.assigned.now gives.0 gives.5 in
    let first = rest_more (deref_pair {K = ℕ} {X = ℕ}) c.loop-sig.sig-iterator c.next.new.self c.next.result (c.in-Some.sig, c.in-Some.bits) c.in-Some.is c.next.ensures.steps in
    let mine : bits k ≡ v = ap (λ o. unwrap_or o 0) turn.1 in (
      c.add_next.ensures.widths ∙ i.0,
      λ h. (
        still_left k v c.loop-sig.sig-iterator c.next.new.self first (present_of p) (present_of q) c.add_next.ensures.trees (i.1 h).0,
        λ x. givers_taken k v x (givers_in c.loop-sig.nexts x) (givers_in c.add_next.new.nexts x) (present_of p) (present_of q x) bits mine (c.add_next.ensures.trees x) (c.in_ok-add_next.ensures.givers x) ∙ (i.1 h).1 x,
        λ x. clock_taken c.args.clock k x (clock_at c.loop-sig.nexts x) (clock_at c.add_next.new.nexts x) (present_of p) (present_of q x) (c.add_next.ensures.trees x) (c.in_ok-add_next.ensures.clocks x) ∙ (i.1 h).2 x,
      ),
    )

pub returns-clause-idle : goal.returns-clause-idle
returns-clause-idle c = λ wid words widths h.
    let i = c.loop-sig.invariant in let p = c.loop-sig.present in
    let all = rest_all (deref_pair {K = ℕ} {X = ℕ}) c.loop-sig.sig-iterator c.next.new.self c.next.result c.in-None.is c.next.ensures.steps in
    idle_again wid p words (λ x. ap (λ ws. unwrap_or (slice_get ws x) 0) i.0 ∙ widths x) (all_ended c.loop-sig.sig-iterator p all (i.1 h).0)

pub returns-clause-givers : goal.returns-clause-givers
returns-clause-givers c = λ h x.
    let i = c.loop-sig.invariant in let p = c.loop-sig.present in
    let all = rest_all (deref_pair {K = ℕ} {X = ℕ}) c.loop-sig.sig-iterator c.next.new.self c.next.result c.in-None.is c.next.ensures.steps in
    givers_end (givers_in c.loop-sig.nexts x) _ (present_of p x) (unwrap_or (get nat_cmp c.args.assigned.now x) 0) (all_ended c.loop-sig.sig-iterator p all (i.1 h).0 x) ((i.1 h).1 x)

pub returns-clause-clocks : goal.returns-clause-clocks
returns-clause-clocks c = λ h x.
    let i = c.loop-sig.invariant in let p = c.loop-sig.present in
    let all = rest_all (deref_pair {K = ℕ} {X = ℕ}) c.loop-sig.sig-iterator c.next.new.self c.next.result c.in-None.is c.next.ensures.steps in
    clocks_end c.args.clock (clock_at c.loop-sig.nexts x) _ (present_of p x) (all_ended c.loop-sig.sig-iterator p all (i.1 h).0 x) ((i.1 h).2 x)
