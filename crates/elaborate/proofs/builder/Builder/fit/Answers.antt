use Rattle.std.proofs.Common.{◌∙◌, refl, sym, ap₂, subst, length}
use Rattle.cell_graph.specs.declared.cell.Cell.TheVariants.{Mux}
use Rattle.cell_graph.specs.declared.cell.CellId.{CellId}
use Rattle.cell_graph.specs.Cells.{cell_width}
use Rattle.cell_graph.specs.Unfolded.{IsCellOf}
use Rattle.elaborate.proofs.Grown.{grows_trans}
use Rattle.elaborate.proofs.builder.Builder.fit.Goals as goal

pub returns-in-Const-clause-fits : goal.returns-in-Const-clause-fits
returns-in-Const-clause-fits c = c.constant.ensures.fits c.args.self.now

pub returns-in_ok-yes-in-Mux-clause-grown : goal.returns-in_ok-yes-in-Mux-clause-grown
returns-in_ok-yes-in-Mux-clause-grown c = grows_trans c.args.self.now c.truth.new.self c.alike-in-Mux.new.self c.in_ok-cond-in-Mux.ensures.grown c.in_ok-yes-in-Mux.ensures.grown

pub returns-in_ok-yes-in-Mux-clause-fits : goal.returns-in_ok-yes-in-Mux-clause-fits
returns-in_ok-yes-in-Mux-clause-fits c =
    let cond = c.in_ok-yes-in-Mux.ensures.grown.words c.in_ok-cond-in-Mux.cond 1 c.in_ok-cond-in-Mux.ensures.word in
    let words = c.in_ok-yes-in-Mux.ensures.words in
    (cond.0, cond.1, (words.1.0.0, words.1.1.0, words.1.0.1 ∙ sym words.1.1.1))

pub returns-in_ok-yes-in-Mux-clause-same : goal.returns-in_ok-yes-in-Mux-clause-same
returns-in_ok-yes-in-Mux-clause-same c = λ is.
    let g = c.args.self.now in
    let fits = subst (IsCellOf c.args.self.now (length c.args.self.now.cells)) c.in-Mux.is is in
    let kept = c.in_ok-cond-in-Mux.ensures.grown.words in
    let yes = kept c.in-Mux.yes (cell_width g c.in-Mux.yes) (fits.2.0, refl) in
    let other = kept c.in-Mux.other (cell_width g c.in-Mux.yes) (fits.2.1, sym fits.2.2) in
    ap₂ (λ (x : CellId) (p : CellId × CellId). Mux x p.0 p.1) (c.in_ok-cond-in-Mux.ensures.same (fits.0, fits.1)) (c.in_ok-yes-in-Mux.ensures.same (yes.0, other.0, yes.1 ∙ sym other.1))
    ∙ sym c.in-Mux.is
