use Rattle.std.proofs.Common.{◌≡◌, ◌∙◌, refl, sym, ap₂, subst, arith}
use Rattle.cell_graph.specs.declared.cell.Cell.TheVariants.{Concat}
use Rattle.cell_graph.specs.declared.cell.CellId.{CellId}
use Rattle.cell_graph.specs.Cells.{cell_width}
use Rattle.cell_graph.specs.Nets.{IsWordOf}
use Rattle.elaborate.proofs.Grown.{grows_trans}
use Rattle.elaborate.proofs.builder.Builder.joined.Goals as goal

pub returns-clause-grown : goal.returns-clause-grown
returns-clause-grown c = grows_trans c.args.self.now c.there.new.self c.fitted.new.self c.in_ok-below.ensures.grown c.in_ok-above.ensures.grown

pub returns-clause-fits : goal.returns-clause-fits
returns-clause-fits c =
    let above = c.in_ok-above.ensures.word in
    let low = c.in_ok-below.ensures.word in
    let below = c.in_ok-above.ensures.grown.words c.in_ok-below.below (cell_width c.there.new.self c.in_ok-below.below) (low.0, refl) in
    (above.0, below.0, omega (arith, above.1, below.1, c.min.ensures, c.width-room.ensures.exact, c.width-room.ensures.word))

-- a high word has one bit at least
pub returns-then-room-eq0-clause-same : goal.returns-then-room-eq0-clause-same
returns-then-room-eq0-clause-same c = λ is.
    absurd (omega (arith, c.if-room-eq0.true, c.width-room.ensures.exact, c.in_ok-below.ensures.word.1, is.2, c.width-wide.ensures.exact, c.width-wide.ensures.word))

pub returns-clause-same : goal.returns-clause-same
returns-clause-same c = λ is.
    let wide = cell_width c.args.self.now c.args.high in
    let fits : c.min.result ≡ cell_width c.args.self.now c.args.high =
    omega (arith, c.min.ensures, c.width-wide.ensures.exact, c.width-room.ensures.exact, c.in_ok-below.ensures.word.1, is.2) in
    let high = c.in_ok-above.ensures.same (subst (IsWordOf c.there.new.self c.args.high) (sym fits) (c.in_ok-below.ensures.grown.words c.args.high wide (is.0, refl))) in
    ap₂ (λ (x y : CellId). Concat x y) high (c.in_ok-below.ensures.same is.1)
