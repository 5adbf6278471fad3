use Rattle.elaborate.proofs.Grown.{grows_trans}
use Rattle.elaborate.proofs.builder.Builder.alike.Goals as goal

pub returns-clause-grown : goal.returns-clause-grown
returns-clause-grown c = grows_trans c.args.self.now c.fitted.new.self c.fitted-2.new.self c.in_ok-x.ensures.grown c.in_ok-y.ensures.grown

pub returns-clause-words : goal.returns-clause-words
returns-clause-words c =
    let width = c.max-width.result in
    (width, (c.in_ok-y.ensures.grown.words c.in_ok-x.x width c.in_ok-x.ensures.word, c.in_ok-y.ensures.word))
