use Rattle.std.proofs.Common.{◌≡◌, ◌∙◌, ◌++◌, ◌+◌, ◌<◌, ℕ, refl, sym, ap, subst, arith, map, take, length, false, List, Some, slice_get}
use Rattle.std.specs.Bool.{MatchBool}
use Rattle.std.specs.List.{Contains}
use Rattle.cdc_base.specs.declared.signal.Signal.{Signal}
use Rattle.driver_trees.specs.declared.sketch.Sketch.{Sketch}
use Rattle.driver_trees.specs.Sketches.{AreOrdered}
use Rattle.driver_loops.specs.Leads.{links_of}
use Rattle.driver_loops.specs.Orders.{HasLoop, IsFront, IsOrderOf}
use Rattle.refusals.specs.Numbers.{elaboration_numbers}
use Rattle.elaborate.specs.Counts.{HasRoom, HasTooManyCells, capped, draft_cells, root_ids}
use Rattle.elaborate.specs.Lowered.{AreNeeded, EndsStandBefore}
use Rattle.refusals.specs.Limits.{IsPastLimit}
use Rattle.elaborate.specs.Refusals.{IsNetRefusedFor, NamesPiece}
use Rattle.elaborate.specs.Words.{as_word}
use Rattle.elaborate.proofs.Orders.{IsWalked, front-counted, front-needed, front-sorted, loop-named, walked-free}
use Rattle.elaborate.proofs.Refusals.{limit-numbered, tells-also}
use Rattle.elaborate.proofs.net_of.Goals as goal

-- what was found stands in the slices too
walked-as : (signals : List Signal) (s : Sketch) (ls : List (List ℕ)) (roots others order : List ℕ) (count : ℕ) {pieces found : List ℕ}
    → (AreOrdered s.pieces.items → ls ≡ links_of signals s.drafts s.pieces.items) → roots ≡ root_ids s
    → others ≡ pieces → ((i : ℕ) → i < length s.pieces.items → slice_get pieces i ≡ Some (length s.drafts + i))
    → order ≡ found → IsOrderOf ls (roots ++ others) found → IsFront ls roots found count → IsWalked signals s ls roots others order count
walked-as signals s ls roots others order count linked listed same pieces is is_order front = record {
  linked = linked;
  listed = listed;
  pieces = λ i l. ap (λ (xs : List ℕ). slice_get xs i) same ∙ pieces i l;
  is_order = subst (IsOrderOf ls (roots ++ others)) (sym is) is_order;
  front = subst (λ o. IsFront ls roots o count) (sym is) front;
}

pub returns-then-loops-clause-refused : goal.returns-then-loops-clause-refused
returns-then-loops-clause-refused c =
    let s = c.args.sketch.now in let signals = c.args.signals.now in let ls = c.in_ok-links.links in
    let roots = c.as_slice-roots.result.now in let others = c.as_slice.result.now in let order = c.as_slice-order.result.now in let count = c.in_ok-found.found.1 in
    let walked = walked-as signals s ls roots others order count c.in_ok-links.ensures (c.as_slice-roots.ensures.value ∙ c.in_ok-needed.ensures) c.as_slice.ensures.value c.in_ok-others.ensures
    c.as_slice-order.ensures.value c.in_ok-found.ensures.order c.in_ok-found.ensures.front in
    tells-also (NamesPiece signals s ls order) (IsNetRefusedFor signals s)
    (λ fault told. IsNetRefusedFor.loop told.names.number (λ f is. loop-named signals s ls roots others order count walked f is c.first_loop_is_first.ensures fault told)) c.in_ok-stop.stop c.in_ok-stop.ensures.told

pub returns-then-cells-gt-MAX_CELLS-clause-numbered : goal.returns-then-cells-gt-MAX_CELLS-clause-numbered
returns-then-cells-gt-MAX_CELLS-clause-numbered c = limit-numbered 602 refl c.past_limit.result c.past_limit.ensures.told

pub returns-then-cells-gt-MAX_CELLS-clause-refused : goal.returns-then-cells-gt-MAX_CELLS-clause-refused
returns-then-cells-gt-MAX_CELLS-clause-refused c =
    let s = c.args.sketch.now in let signals = c.args.signals.now in let ls = c.in_ok-links.links in
    let roots = c.as_slice-roots.result.now in let others = c.as_slice.result.now in let order = c.as_slice-order.result.now in let count = c.in_ok-found.found.1 in
    let walked = walked-as signals s ls roots others order count c.in_ok-links.ensures (c.as_slice-roots.ensures.value ∙ c.in_ok-needed.ensures) c.as_slice.ensures.value c.in_ok-others.ensures
    c.as_slice-order.ensures.value c.in_ok-found.ensures.order c.in_ok-found.ensures.front in
    let none = subst (λ b. MatchBool b (HasLoop ls order) (¬ HasLoop ls order)) c.if-loops.false (c.in_ok-loops.ensures.loops walked.is_order.once walked.is_order.depth_first) in
    tells-also (IsPastLimit 602) (IsNetRefusedFor signals s)
    (λ fault told. IsNetRefusedFor.cells told (λ f is. (
      walked-free signals s ls roots others order count walked f is c.signals_lie_on_loops.ensures none,
      λ sel trees. let e = front-counted signals s ls roots others order count walked f is (c.in_ok-loops.ensures.before.0 c.if-loops.false) sel trees in
          let n = c.in_ok-cells.ensures f sel e.0 (subst (EndsStandBefore f s.drafts s.pieces.items) (sym c.front_of-front.ensures) e.1) (λ v h. (subst (λ xs. Contains xs v) (sym c.front_of-front.ensures) (e.2 v h).0, (e.2 v h).1)) in
          omega (arith, n, e.3, c.if-cells-gt-MAX_CELLS.true),
    ))) c.past_limit.result c.past_limit.ensures.told

pub returns-clause-accepted : goal.returns-clause-accepted
returns-clause-accepted c = λ f is.
    let s = c.args.sketch.now in let signals = c.args.signals.now in let ls = c.in_ok-links.links in
    let roots = c.as_slice-roots.result.now in let others = c.as_slice.result.now in let order = c.as_slice-order.result.now in let count = c.in_ok-found.found.1 in
    let walked = walked-as signals s ls roots others order count c.in_ok-links.ensures (c.as_slice-roots.ensures.value ∙ c.in_ok-needed.ensures) c.as_slice.ensures.value c.in_ok-others.ensures
    c.as_slice-order.ensures.value c.in_ok-found.ensures.order c.in_ok-found.ensures.front in
    let none = subst (λ b. MatchBool b (HasLoop ls order) (¬ HasLoop ls order)) c.if-loops.false (c.in_ok-loops.ensures.loops walked.is_order.once walked.is_order.depth_first) in (
      walked-free signals s ls roots others order count walked f is c.signals_lie_on_loops.ensures none,
      λ sel trees. let e = front-counted signals s ls roots others order count walked f is (c.in_ok-loops.ensures.before.0 c.if-loops.false) sel trees in
          let n = c.in_ok-cells.ensures f sel e.0 (subst (EndsStandBefore f s.drafts s.pieces.items) (sym c.front_of-front.ensures) e.1) (λ v h. (subst (λ xs. Contains xs v) (sym c.front_of-front.ensures) (e.2 v h).0, (e.2 v h).1)) in
          omega (arith, n, e.3, c.if-cells-gt-MAX_CELLS.false),
    )

pub returns-clause-unfolds : goal.returns-clause-unfolds
returns-clause-unfolds c = λ f sel same trees sketch.
    let s = c.args.sketch.now in let signals = c.args.signals.now in let ls = c.in_ok-links.links in
    let roots = c.as_slice-roots.result.now in let others = c.as_slice.result.now in let order = c.as_slice-order.result.now in let count = c.in_ok-found.found.1 in
    let walked = walked-as signals s ls roots others order count c.in_ok-links.ensures (c.as_slice-roots.ensures.value ∙ c.in_ok-needed.ensures) c.as_slice.ensures.value c.in_ok-others.ensures
    c.as_slice-order.ensures.value c.in_ok-found.ensures.order c.in_ok-found.ensures.front in
    c.in_ok-net.ensures.unfolds f sel (record { words = ap (map as_word) (sym same); trees = trees; sketch = sketch })
    (subst (EndsStandBefore f s.drafts s.pieces.items) (sym c.front_of-front.ensures) (front-sorted signals s ls roots others order count walked f same sketch (c.in_ok-loops.ensures.before.0 c.if-loops.false)))
    (subst (AreNeeded s) (sym c.front_of-front.ensures) (front-needed signals s ls roots others order count walked f same sketch))
