use Rattle.std.proofs.Common.{◌≡◌, ◌≢◌, ◌∙◌, ◌+◌, ◌<◌, ◌≤◌, ℕ, refl, sym, ap, subst, arith, length, drop, List, Option, None, Some, slice_get}
use Rattle.std.specs.List.Sorted.{IsPartitionPoint}
use Rattle.std.proofs.lemmas.Option.{slice_get_within}
use Rattle.driver_trees.specs.declared.sketch.Piece.{Piece}
use Rattle.driver_trees.specs.Drafts.{tree_in, width_at}
use Rattle.flat_meaning.specs.Pieces.{wire_select}
use Rattle.driver_trees.specs.Sketches.{AreOrdered, IsPieceIn, pieces_in}
use Rattle.elaborate.specs.declared.lower.Tree.{Tree as Lowered}
use Rattle.elaborate.specs.Lowered.{IsJoined, IsMet}
use Rattle.elaborate.proofs.Grown.{grows_refl, grows_trans}
use Rattle.elaborate.proofs.CellTrees.{met-kept}
use Rattle.elaborate.proofs.Vertices.{all-at, begins, comes-next, ends, found-at, goes-on, none-before, none-behind, own-between}
use Rattle.elaborate.proofs.lower.Lowering.joined.Goals as goal

abbrev IsFirst : List Piece → ℕ → ℕ → Type 0
IsFirst ps sig k = AreOrdered ps → IsPartitionPoint (λ (p : Piece). p.sig < sig) (λ (p : Piece). sig ≤ p.sig) ps k

abbrev IsPast : List Piece → ℕ → ℕ → Type 0
IsPast ps sig k = AreOrdered ps → IsPartitionPoint (λ (p : Piece). p.sig ≤ sig) (λ (p : Piece). sig < p.sig) ps k

pub loop-place-init : goal.loop-place-init
loop-place-init c =
    let ps = c.args.sketch.now.pieces.items in
    let value = c.as_slice-pieces.ensures.value in
    record {
      signals = refl;
      trees = refl;
      grown = grows_refl c.args.self.now.graph;
      joined = λ sel can.
          let first = subst (λ qs. IsFirst qs c.args.sig c.first_piece-place.result) value c.first_piece-place.ensures.exact can.ordered in
          let past = subst (λ qs. IsPast qs c.args.sig c.past_pieces-place-end.result) value c.past_pieces-place-end.ensures.exact can.ordered in
          begins sel c.args.sketch.now.drafts ps c.args.sig c.args.at c.args.width (IsJoined c.args.self.now.graph None) refl c.first_piece-place.result
          (none-before ps c.args.sig c.first_piece-place.result c.past_pieces-place-end.result first past);
    }

pub loop-place-preserved : goal.loop-place-preserved
loop-place-preserved c =
    let inv = c.loop-place.invariant in
    let g = c.loop-place.self.graph in let h = c.join.new.self.graph in
    let ps = c.args.sketch.now.pieces.items in let ds = c.args.sketch.now.drafts in
    let value = c.as_slice-pieces.ensures.value in
    let k = c.loop-place.place in
    let p = c.in-Some.piece.now in
    record {
      signals = c.in_ok-joined.ensures.signals ∙ inv.signals;
      trees = c.in_ok-joined.ensures.trees ∙ inv.trees;
      grown = grows_trans c.args.self.now.graph g h inv.grown c.in_ok-joined.ensures.grown;
      joined = λ sel can.
          let first = subst (λ qs. IsFirst qs c.args.sig c.first_piece-place.result) value c.first_piece-place.ensures.exact can.ordered in
          let past = subst (λ qs. IsPast qs c.args.sig c.past_pieces-place-end.result) value c.past_pieces-place-end.ensures.exact can.ordered in
          let here : slice_get ps k ≡ Some p = ap (λ qs. slice_get qs k) (sym value) ∙ found-at c.as_slice-pieces.result.now k p c.in-Some.ensures.lookup.0 c.in-Some.ensures.lookup.1 in
          let own = own-between ps c.args.sig c.first_piece-place.result c.past_pieces-place-end.result first past k p here c.loop-place.auto.place c.loop-place-test.true in
          let is = inv.joined sel can in
          let stands = all-at (IsPieceIn ds) ps k p can.stand here in
          goes-on sel ds ps c.args.sig c.args.at c.args.width (IsJoined h c.in_ok-joined.joined.tree) c.loop-place.joined.bits c.in_ok-joined.joined.bits k p can.ordered here own c.in_ok-joined.ensures.short is.above
          (c.in_ok-joined.ensures.joined (tree_in sel ds p.tree) (width_at ds p.tree) (pieces_in sel ds (drop (k + 1) ps) c.args.sig) (wire_select (pieces_in sel ds ps c.args.sig) c.args.at c.args.width)
          (comes-next sel ds ps c.args.sig c.args.at c.args.width (IsJoined g c.loop-place.joined.tree) c.loop-place.joined.bits k p here own is)
          (λ meets. c.piece-tree.ensures (tree_in sel ds p.tree) (width_at ds p.tree)
          (subst (λ (ts : List (Option Lowered)). IsMet g ts (length ds + k) (tree_in sel ds p.tree) (width_at ds p.tree)) (ap (λ v. v.items) (sym inv.trees)) (met-kept c.args.self.now.graph g inv.grown c.args.self.now.trees.items (length ds + k) (tree_in sel ds p.tree) (width_at ds p.tree) (can.known k p here own meets))))
          stands.2 can.room (is.above k p (omega arith) here own));
    }

pub returns-clause-joined : goal.returns-clause-joined
returns-clause-joined c = λ sel can.
    let ps = c.args.sketch.now.pieces.items in
    let value = c.as_slice-pieces.ensures.value in
    let first = subst (λ qs. IsFirst qs c.args.sig c.first_piece-place.result) value c.first_piece-place.ensures.exact can.ordered in
    let past = subst (λ qs. IsPast qs c.args.sig c.past_pieces-place-end.result) value c.past_pieces-place-end.ensures.exact can.ordered in
    ends sel c.args.sketch.now.drafts ps c.args.sig c.args.at c.args.width (IsJoined c.loop-place.self.graph c.loop-place.joined.tree) c.loop-place.joined.bits c.loop-place.place
    (λ i p at l. none-behind ps c.args.sig c.first_piece-place.result c.past_pieces-place-end.result first past i p at (omega (arith, l, c.loop-place-test.false))) (c.loop-place.invariant.joined sel can)
