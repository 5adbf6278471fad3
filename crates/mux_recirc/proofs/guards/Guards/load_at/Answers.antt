-- By whether a crossing stands there.
use Rattle.std.proofs.Common.{◌∙◌, sym}
use Rattle.mux_recirc.proofs.Guarding.{no_crossing}
use Rattle.mux_recirc.proofs.guards.Guards.load_at.Goals as goal

pub returns-in-Some : goal.returns-in-Some
returns-in-Some c = λ net domains rings are. c.load_of.ensures net domains c.args.crossings.now rings are (sym c.crossing_at.ensures ∙ c.in-Some.is)

pub returns-in-None : goal.returns-in-None
returns-in-None c = λ net domains rings are. no_crossing net domains c.args.crossings.now rings c.args.place (sym c.crossing_at.ensures ∙ c.in-None.is)
