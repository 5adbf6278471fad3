-- None of the terms so far is on the signal.
use Rattle.std.proofs.Common.{None, take}
use Rattle.fifo_ways.specs.Steps.{IsIndexCell}
use Rattle.fifo_ways.proofs.choice.index_cell.Given as goal

abbrev pub invariant-loop-term : goal.invariant-loop-term
invariant-loop-term l = IsIndexCell l.net.graph (take l.term-index l.terms) l.count None
