use Rattle.elaborate.proofs.Grown.{grows_trans}
use Rattle.elaborate.proofs.builder.Builder.slice.Goals as goal

pub returns-clause-grown : goal.returns-clause-grown
returns-clause-grown c = grows_trans c.args.self.now c.there.new.self c.place.new.self c.in_ok-a.ensures.grown c.in_ok-inside.ensures.grown
