-- What was added and what is left are all guards.
use Rattle.std.proofs.Common.{◌≡◌, ◌++◌, drop}
use Rattle.fifo_ways.specs.Guards.{all_guards}
use Rattle.fifo_ways.proofs.guard.guards_of.Given as goal

abbrev pub invariant-loop-cell : goal.invariant-loop-cell
invariant-loop-cell l = all_guards l.graph l.cells ≡ l.guards ++ all_guards l.graph (drop l.cell-index l.cells)
