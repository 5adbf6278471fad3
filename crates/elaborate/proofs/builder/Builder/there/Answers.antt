use Rattle.std.proofs.Common.{◌∙◌, sym, ap, arith, length}
use Rattle.cell_graph.specs.Cells.{Cells}
use Rattle.cell_graph.proofs.Grown.{no-width}
use Rattle.elaborate.proofs.builder.Builder.there.Goals as goal

pub returns-clause-word : goal.returns-clause-word
returns-clause-word c =
    let e = ap (λ (g : Cells). length g.cells) c.self.view_is in
    let word = c.in_ok-zero.ensures.word in
    (word.0, word.1 ∙ sym (no-width c.args.self.now c.args.id (omega (arith, e, c.cell_count.ensures, c.if-id-cell_count.false))))
