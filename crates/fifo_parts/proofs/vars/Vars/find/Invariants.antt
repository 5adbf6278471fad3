-- The cells so far are kept for their signals.
use Rattle.fifo_parts.specs.Sides.{AreVarsBelow}
use Rattle.fifo_parts.proofs.vars.Vars.find.Given as goal

abbrev pub invariant-loop-place : goal.invariant-loop-place
invariant-loop-place l = AreVarsBelow l.net.graph l.place l.vars
