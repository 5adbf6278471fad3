-- The pieces of other signals are passed over, and one of the signal is added where it is met.
use Rattle.std.proofs.Common.{◌≡◌, ◌∙◌, ◌+◌, ◌<◌, sym, ap, arith, rules, length, get_or, true, false, [], ◌∷◌}
use Rattle.driver_trees.specs.declared.sketch.Piece.{Piece}
use Rattle.driver_loops.specs.Links.{extended}
use Rattle.driver_loops.proofs.Meets.{lower_skipped, upper_skipped, pieces_step}
use Rattle.driver_loops.proofs.Rows.{extended-nothing}
use Rattle.driver_loops.proofs.links.Links.add_pieces.Goals as goal
use Rattle.driver_loops.proofs.links.Links.add_pieces.Goals.{then-meets+in_ok-vertex+in_ok-add, else-meets}

abbrev none : Piece
none = record { sig = 0; at = 0; width = 0; tree = record { 0 = 0 }; inside = 0 }

pub loop-place-init : goal.loop-place-init
loop-place-init c = λ ordered.
    ap (extended c.args.self.now)
    (sym (lower_skipped c.args.first c.args.pieces.now c.args.sig c.args.at c.args.width c.first_piece-from.result c.first_piece-from.ensures.bound (c.first_piece-from.ensures.exact ordered).0))

pub loop-place-preserved : goal.loop-place-preserved
loop-place-preserved c = λ ordered.
    let ps = c.args.pieces.now in
    let k = c.loop-place.place in
    let within : k < length ps = (let t = c.loop-place-test.true in let b = c.past_pieces-to.ensures.bound in omega arith) in
    let low = (c.first_piece-from.ensures.exact ordered).1 k none c.loop-place.auto.place within in
    let high = (c.past_pieces-to.ensures.exact ordered).0 k none (omega arith) c.loop-place-test.true in
    let same : (get_or ps k none).sig ≡ c.args.sig = omega arith in
    let step = pieces_step c.args.first ps c.args.sig c.args.at c.args.width k none within same c.loop-place.self c.if-meets.self in
    elim c.if-meets.branch [
      | then-meets+in_ok-vertex+in_ok-add w ↦
          let number : w.in_ok-vertex.vertex ≡ c.args.first + k = search rules in
          step true (sym c.meets.ensures ∙ w.if-meets.true) (w.self-is ∙ w.in_ok-add.ensures ∙ ap (λ v. extended c.loop-place.self (v ∷ [])) number) ∙ c.loop-place.invariant ordered
      | else-meets w ↦ step false (sym c.meets.ensures ∙ w.if-meets.false) w.self-is ∙ c.loop-place.invariant ordered
    ]

pub returns : goal.returns
returns c = λ ordered.
    let ps = c.args.pieces.now in
    let k = c.loop-place.place in
    let past = (c.past_pieces-to.ensures.exact ordered).1 in
    sym (extended-nothing c.loop-place.self)
    ∙ ap (extended c.loop-place.self) (sym (upper_skipped (c.args.first + k) ps c.args.sig c.args.at c.args.width k (λ i d low high. past i d (let t = c.loop-place-test.false in omega arith) high)))
    ∙ c.loop-place.invariant ordered
