use Rattle.std.proofs.Common.{◌∙◌}
use Rattle.cell_graph.specs.Cells.{cell_width}
use Rattle.elaborate.proofs.Grown.{grows_trans}
use Rattle.elaborate.proofs.builder.Builder.both.Goals as goal

pub returns-clause-grown : goal.returns-clause-grown
returns-clause-grown c = grows_trans c.args.self.now c.there.new.self c.fitted.new.self c.in_ok-x.ensures.grown c.in_ok-y.ensures.grown

pub returns-clause-words : goal.returns-clause-words
returns-clause-words c =
    let word = c.in_ok-y.ensures.word in
    (c.in_ok-y.ensures.grown.words c.in_ok-x.x (cell_width c.args.self.now c.args.a) c.in_ok-x.ensures.word, (word.0, word.1 ∙ c.width-wide.ensures.exact))
