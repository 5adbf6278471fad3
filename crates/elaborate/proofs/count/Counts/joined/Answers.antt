use Rattle.std.proofs.Common.{◌≡◌, ◌∙◌, ◌∷◌, ◌+◌, ◌<◌, ◌≤◌, ℕ, refl, sym, ap, subst, arith, drop, List, Some, slice_get}
use Rattle.std.specs.List.Sorted.{IsPartitionPoint}
use Rattle.driver_trees.specs.declared.sketch.Piece.{Piece}
use Rattle.driver_trees.specs.Drafts.{tree_in, width_at}
use Rattle.flat_meaning.specs.Pieces.{Piece as PieceOf, wire_select}
use Rattle.elaborate.specs.Lowered.{IsJoiningBy}
use Rattle.driver_trees.specs.Sketches.{AreOrdered, pieces_in}
use Rattle.elaborate.specs.Counted.{IsLowCount}
use Rattle.elaborate.proofs.Vertices.{begins, comes-next, ends, found-at, goes-on, none-before, none-behind, own-between}
use Rattle.elaborate.proofs.count.Counts.joined.Goals as goal

abbrev IsFirst : List Piece → ℕ → ℕ → Type 0
IsFirst ps sig k = AreOrdered ps → IsPartitionPoint (λ (p : Piece). p.sig < sig) (λ (p : Piece). sig ≤ p.sig) ps k

abbrev IsPast : List Piece → ℕ → ℕ → Type 0
IsPast ps sig k = AreOrdered ps → IsPartitionPoint (λ (p : Piece). p.sig ≤ sig) (λ (p : Piece). sig < p.sig) ps k

pub loop-place-init : goal.loop-place-init
loop-place-init c = λ sel can.
    let ps = c.args.sketch.now.pieces.items in
    let value = c.as_slice-pieces.ensures.value in
    let first = subst (λ qs. IsFirst qs c.args.sig c.first_piece-place.result) value c.first_piece-place.ensures.exact can.ordered in
    let past = subst (λ qs. IsPast qs c.args.sig c.past_pieces-place-end.result) value c.past_pieces-place-end.ensures.exact can.ordered in
    begins sel c.args.sketch.now.drafts ps c.args.sig c.args.at c.args.width (IsLowCount 0) (λ l. absurd (omega arith)) c.first_piece-place.result
    (none-before ps c.args.sig c.first_piece-place.result c.past_pieces-place-end.result first past)

pub loop-place-preserved : goal.loop-place-preserved
loop-place-preserved c = λ sel can.
    let ps = c.args.sketch.now.pieces.items in let ds = c.args.sketch.now.drafts in
    let value = c.as_slice-pieces.ensures.value in
    let k = c.loop-place.place in
    let p = c.in-Some.piece.now in
    let first = subst (λ qs. IsFirst qs c.args.sig c.first_piece-place.result) value c.first_piece-place.ensures.exact can.ordered in
    let past = subst (λ qs. IsPast qs c.args.sig c.past_pieces-place-end.result) value c.past_pieces-place-end.ensures.exact can.ordered in
    let here : slice_get ps k ≡ Some p = ap (λ qs. slice_get qs k) (sym value) ∙ found-at c.as_slice-pieces.result.now k p c.in-Some.ensures.lookup.0 c.in-Some.ensures.lookup.1 in
    let own = own-between ps c.args.sig c.first_piece-place.result c.past_pieces-place-end.result first past k p here c.loop-place.auto.place c.loop-place-test.true in
    let is = c.loop-place.invariant sel can in
    let whole = wire_select (pieces_in sel ds ps c.args.sig) c.args.at c.args.width in
    let rest = pieces_in sel ds (drop (k + 1) ps) c.args.sig in
    let piece : ℕ → PieceOf = λ size. record { at = p.at; bits = p.width; tree = tree_in sel ds p.tree; size = size; inside = p.inside } in
    let next = subst (λ size. IsJoiningBy (IsLowCount c.loop-place.joined.cells) c.loop-place.joined.bits (piece size ∷ rest) c.args.at c.args.width whole) (sym c.width-size.ensures)
    (comes-next sel ds ps c.args.sig c.args.at c.args.width (IsLowCount c.loop-place.joined.cells) c.loop-place.joined.bits k p here own is) in
    goes-on sel ds ps c.args.sig c.args.at c.args.width (IsLowCount c.join-joined.result.cells) c.loop-place.joined.bits c.join-joined.result.bits k p can.ordered here own c.join-joined.ensures.short is.above
    (c.join-joined.ensures.joined (tree_in sel ds p.tree) rest whole next
    (λ meets. c.piece-cells.ensures (tree_in sel ds p.tree) (can.known k p here own meets)) can.room (is.above k p (omega arith) here own))

pub returns : goal.returns
returns c = λ sel can.
    let ps = c.args.sketch.now.pieces.items in
    let value = c.as_slice-pieces.ensures.value in
    let first = subst (λ qs. IsFirst qs c.args.sig c.first_piece-place.result) value c.first_piece-place.ensures.exact can.ordered in
    let past = subst (λ qs. IsPast qs c.args.sig c.past_pieces-place-end.result) value c.past_pieces-place-end.ensures.exact can.ordered in
    ends sel c.args.sketch.now.drafts ps c.args.sig c.args.at c.args.width (IsLowCount c.loop-place.joined.cells) c.loop-place.joined.bits c.loop-place.place
    (λ i p at l. none-behind ps c.args.sig c.first_piece-place.result c.past_pieces-place-end.result first past i p at (omega (arith, l, c.loop-place-test.false))) (c.loop-place.invariant sel can)
