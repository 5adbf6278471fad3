use Rattle.std.proofs.Common.{◌≡◌, ◌+◌, ◌-◌, ◌<◌, ◌≤◌, max, min, arith, refl, Some}
use Rattle.cell_graph.specs.Tree.{Const}
use Rattle.cell_graph.proofs.Grown.{cell-sized}
use Rattle.flat_meaning.specs.Pieces.{Piece}
use Rattle.flat_meaning.specs.Trees.{cut, glue}
use Rattle.elaborate.specs.Lowered.{IsJoined}
use Rattle.elaborate.proofs.Grown.{grows_trans}
use Rattle.elaborate.proofs.CellTrees.{has-kept, joined-kept, joining-hit, joining-missed}
use Rattle.elaborate.proofs.lower.Lowering.join.Goals as goal

pub returns-then-high-low-clause-joined : goal.returns-then-high-low-clause-joined
returns-then-high-low-clause-joined c = λ t size left whole is has part room above.
    let p = c.args.piece in
    joining-missed c.args.at c.args.width (record { at = p.at; bits = p.width; tree = t; size = size; inside = p.inside }) left (IsJoined c.args.self.now.graph c.args.joined.tree) c.args.joined.bits whole
    (omega (arith, c.if-high-low.true, c.max-low.ensures, c.saturating_add-end.ensures, c.min-high.ensures, c.saturating_add.ensures, room)) is

pub returns-clause-grown : goal.returns-clause-grown
returns-clause-grown c =
    grows_trans c.args.self.now.graph c.filled.new.self.graph c.above.new.self.graph c.in_ok-below.ensures.grown
    (grows_trans c.filled.new.self.graph c.cut.new.self.graph c.above.new.self.graph c.in_ok-part.ensures.grown c.in_ok-whole.ensures.grown)

pub returns-clause-joined : goal.returns-clause-joined
returns-clause-joined c = λ t size left whole is has part room above.
    let p = c.args.piece in
    let at = c.args.at in let w = c.args.width in let n = c.args.joined.bits in
    let l = c.max-low.result in let k = c.min-high.result in let i = c.saturating_add-inside.result in
    let piece : Piece = record { at = p.at; bits = p.width; tree = t; size = size; inside = p.inside } in
    let hit : max at p.at < min (at + w) (p.width + p.at) = omega (arith, c.if-high-low.false, c.max-low.ensures, c.saturating_add-end.ensures, c.min-high.ensures, c.saturating_add.ensures, room) in
    let low : l ≡ max at p.at = omega (arith, c.max-low.ensures) in
    let high : k ≡ min (at + w) (p.width + p.at) = omega (arith, c.saturating_add-end.ensures, c.min-high.ensures, c.saturating_add.ensures, room) in
    let own = has hit in
    let sized = (cell-sized c.args.self.now.graph c.fits.ensures c.args.tree.cell).1 in
    let from : i ≡ p.inside + (l - p.at) = omega (arith, c.saturating_add-inside.ensures, part, own.word.1, sized, low, high, hit) in
    let below = c.in_ok-below.ensures.filled is.low is.is (omega (arith, low, above)) (omega (arith, low, hit, room)) in
    let tree = has-kept c.args.self.now.graph c.filled.new.self.graph c.in_ok-below.ensures.grown c.args.tree t size own in
    let bits = c.in_ok-part.ensures.cut t size tree (omega (arith, low, high, hit)) (omega (arith, from, part, low, high, hit)) in
    let under = joined-kept c.filled.new.self.graph c.cut.new.self.graph c.in_ok-part.ensures.grown c.in_ok-below.below _ (l - at) below in
    let both = c.in_ok-whole.ensures.above (cut size i (k - l) t) (glue (l - at - n) (Const (l - at - n) 0) n is.low) (k - l) (l - at) bits under (omega (arith, low, high, hit)) (omega (arith, low, high, hit, room)) in
    joining-hit at w piece left (IsJoined c.above.new.self.graph (Some c.in_ok-whole.whole)) n is.low whole l k i (k - at) hit low high from refl is.same
    (omega (arith, low, high, hit), both)
