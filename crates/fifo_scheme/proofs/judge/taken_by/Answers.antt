-- By what is looked up.
use Rattle.std.proofs.Common.{◌∙◌, sym, ap}
use Rattle.std.specs.Option.{option_copied}
use Rattle.fifo_scheme.proofs.MetFound.{taken_absent, taken_there}
use Rattle.fifo_scheme.proofs.judge.taken_by.Goals as goal

pub returns-in-Some : goal.returns-in-Some
returns-in-Some c = λ net domains meant grays is.
    taken_there net domains meant grays c.args.index.now is c.args.bit c.in-Some.taking.now (sym c.taking.ensures ∙ ap option_copied c.in-Some.is)

pub returns-in-None : goal.returns-in-None
returns-in-None c = λ net domains meant grays is register.
    taken_absent net domains meant grays c.args.index.now is c.args.bit (sym c.taking.ensures ∙ ap option_copied c.in-None.is) register
