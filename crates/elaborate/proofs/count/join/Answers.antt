use Rattle.std.proofs.Common.{◌≡◌, ◌+◌, ◌-◌, ◌<◌, ◌≤◌, max, min, arith, refl}
use Rattle.cell_graph.specs.Tree.{Const}
use Rattle.flat_meaning.specs.Pieces.{Piece}
use Rattle.flat_meaning.specs.Trees.{cut, glue}
use Rattle.elaborate.specs.Counted.{IsLowCount}
use Rattle.elaborate.proofs.CellTrees.{joined_at, joining-hit, joining-missed}
use Rattle.elaborate.proofs.count.join.Goals as goal

pub returns-then-high-low-clause-joined : goal.returns-then-high-low-clause-joined
returns-then-high-low-clause-joined c = λ t left whole is has room above.
    let p = c.args.piece in
    joining-missed c.args.at c.args.width (record { at = p.at; bits = p.width; tree = t; size = c.args.size; inside = p.inside }) left (IsLowCount c.args.joined.cells) c.args.joined.bits whole
    (omega (arith, c.if-high-low.true, c.max-low.ensures, c.saturating_add-end.ensures, c.min-high.ensures, c.saturating_add.ensures, room)) is

pub returns-clause-joined : goal.returns-clause-joined
returns-clause-joined c = λ t left whole is has room above.
    let p = c.args.piece in
    let at = c.args.at in let w = c.args.width in let n = c.args.joined.bits in let size = c.args.size in
    let l = c.max-low.result in let k = c.min-high.result in let i = p.inside + (l - p.at) in
    let piece : Piece = record { at = p.at; bits = p.width; tree = t; size = size; inside = p.inside } in
    let hit : max at p.at < min (at + w) (p.width + p.at) = omega (arith, c.if-high-low.false, c.max-low.ensures, c.saturating_add-end.ensures, c.min-high.ensures, c.saturating_add.ensures, room) in
    let low : l ≡ max at p.at = omega (arith, c.max-low.ensures) in
    let high : k ≡ min (at + w) (p.width + p.at) = omega (arith, c.saturating_add-end.ensures, c.min-high.ensures, c.saturating_add.ensures, room) in
    let below = c.filled_up-below.ensures is.low is.is (omega (arith, low, above)) in
    let part = c.cut-part.ensures t i (has hit) in
    let both = c.above.ensures (cut size i (k - l) t) (glue (l - at - n) (Const (l - at - n) 0) n is.low) (k - l) part below (omega (arith, low, high, hit)) in
    joining-hit at w piece left (IsLowCount c.above.result) n is.low whole l k i (k - at) hit low high refl refl is.same (λ some. both)
