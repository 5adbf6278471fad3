use Rattle.std.proofs.Common.{◌≡◌, ◌∙◌, ◌+◌, ◌<◌, suc, ap, inl, inr, arith, length, Some, slice_get}
use Rattle.cell_graph.proofs.Trees.{get-push_old, length-push}
use Rattle.elaborate.proofs.Vertices.{get-push_new}
use Rattle.std.proofs.lemmas.Bool.{cases_lt}
use Rattle.elaborate.proofs.pieces_of.Goals as goal

pub loop-place-preserved : goal.loop-place-preserved
loop-place-preserved c =
    let inv = c.loop-place.invariant in let k = c.loop-place.place in let old = c.loop-place.vertices.items in let v = c.in_ok-vertex.vertex in
    let first = length c.args.sketch.now.drafts in
    let here : v ≡ first + k = omega (arith, c.in_ok-vertex.ensures, c.saturating_add.ensures, ap length c.as_slice-first.ensures) in
    record {
      size = ap length c.in_ok-push.ensures ∙ length-push old v ∙ (let e : suc (length old) ≡ k + 1 = omega (arith, inv.size) in e);
      listed = λ i l. ap (λ xs. slice_get xs i) c.in_ok-push.ensures
          ∙ elim (cases_lt i k) [
            | inl m ↦ get-push_old old v i (omega (arith, inv.size, m)) ∙ inv.listed i m
            | inr m ↦ get-push_new old v i (omega (arith, inv.size, l, m)) ∙ ap Some (let e : v ≡ first + i = omega (arith, here, l, m) in e)
          ];
    }
