use Rattle.std.proofs.Common.{◌≡◌, ◌∙◌, sym, ap, arith, length, slice_get, Some}
use Rattle.std.proofs.lemmas.Option.{slice_get_within}
use Rattle.driver_trees.specs.declared.sketch.Piece.{Piece}
use Rattle.elaborate.specs.Counts.{count_at}
use Rattle.elaborate.proofs.Vertices.{found-at, not-found}
use Rattle.elaborate.proofs.count.Counts.behind.Goals as goal

pub returns-in-Some : goal.returns-in-Some
returns-in-Some c = λ i p at here.
    let ps = c.args.sketch.now.pieces.items in let k = c.saturating_sub-place.result in
    let place : i ≡ k = omega (arith, c.saturating_sub-place.ensures, ap length c.as_slice.ensures, at) in
    let found : slice_get ps k ≡ Some c.in-Some.piece.now =
    ap (λ xs. slice_get xs k) (sym c.as_slice-2.ensures.value) ∙ found-at c.as_slice-2.result.now k c.in-Some.piece.now c.in-Some.ensures.lookup.0 c.in-Some.ensures.lookup.1 in
    let both : Some p ≡ Some c.in-Some.piece.now = sym here ∙ ap (slice_get ps) place ∙ found in
    let same : c.in-Some.piece.now ≡ p = cc in
    c.at.ensures.exact ∙ ap (λ (x : Piece). count_at c.args.self.now.cells.items x.tree.0) same

pub returns-in-None : goal.returns-in-None
returns-in-None c = λ i p at here.
    let ps = c.args.sketch.now.pieces.items in
    let within = slice_get_within ps i p here in
    let past = not-found c.as_slice-2.result.now c.saturating_sub-place.result c.in-None.ensures.lookup.0 in
    let count = ap length c.as_slice-2.ensures.value in
    absurd (omega (arith, c.saturating_sub-place.ensures, ap length c.as_slice.ensures, at, within, past, count))
