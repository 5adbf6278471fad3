use Rattle.elaborate.proofs.Grown.{grows_trans}
use Rattle.elaborate.proofs.builder.Builder.fitted.Goals as goal

pub returns-then-own-width-clause-grown : goal.returns-then-own-width-clause-grown
returns-then-own-width-clause-grown c = grows_trans c.args.self.now c.there.new.self c.place.new.self c.in_ok-a.ensures.grown c.in_ok-wider.ensures.grown

pub returns-then-own-width-2-clause-grown : goal.returns-then-own-width-2-clause-grown
returns-then-own-width-2-clause-grown c =
    grows_trans c.args.self.now c.there.new.self c.place-then-own-width-2.new.self c.in_ok-a.ensures.grown c.in_ok-lowest.ensures.grown
