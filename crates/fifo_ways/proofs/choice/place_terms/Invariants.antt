-- The terms so far.
use Rattle.std.proofs.Common.{◌≡◌}
use Rattle.fifo_ways.specs.Steps.{place_terms}
use Rattle.fifo_ways.proofs.choice.place_terms.Given as goal

abbrev pub invariant-loop-at : goal.invariant-loop-at
invariant-loop-at l = l.terms ≡ place_terms l.cell l.at l.place
