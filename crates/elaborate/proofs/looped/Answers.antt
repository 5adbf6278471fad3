use Rattle.std.proofs.Common.{◌≡◌, ◌∙◌, ◌+◌, ◌<◌, ℕ, sym, ap, subst, arith, length, drop, true, Bool, List, Some, slice_get}
use Rattle.driver_trees.specs.declared.sketch.Piece.{Piece}
use Rattle.elaborate.proofs.Refusals.{get-drop}
use Rattle.elaborate.proofs.Vertices.{found-at}
use Rattle.elaborate.proofs.looped.Goals as goal

pub returns-in-Some-get-2 : goal.returns-in-Some-get-2
returns-in-Some-get-2 c =
    let s = c.args.sketch.now in let marks = c.args.on_loops.now in let n = c.in-Some.place in
    let behind = c.behind.ensures in
    let at = λ (i : ℕ) (e : slice_get c.behind.result.now i ≡ Some true).
    ap (λ k. slice_get marks (k + i)) (sym (ap length c.as_slice.ensures)) ∙ sym (get-drop marks (length c.as_slice.result.now) i) ∙ ap (λ xs. slice_get xs i) (sym behind) ∙ e in
    record {
      place = n;
      piece = c.in-Some-get.piece.now;
      stands = ap (λ xs. slice_get xs n) (sym c.as_slice-2.ensures.value) ∙ found-at c.as_slice-2.result.now n c.in-Some-get.piece.now c.in-Some-get.ensures.lookup.0 c.in-Some-get.ensures.lookup.1;
      is = found-at c.args.signals.now c.in-Some-get.piece.now.sig c.in-Some-get-2.signal.now c.in-Some-get-2.ensures.lookup.0 c.in-Some-get-2.ensures.lookup.1;
      marked = at n c.in-Some.ensures.first.0;
      first = λ i l e. c.in-Some.ensures.first.1 i l
          (ap (λ xs. slice_get xs i) behind ∙ get-drop marks (length c.as_slice.result.now) i ∙ ap (λ k. slice_get marks (k + i)) (ap length c.as_slice.ensures) ∙ e);
    }
