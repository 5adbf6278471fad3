-- The cells so far have their rows.
use Rattle.std.proofs.Common.{take}
use Rattle.fifo_ways.specs.Marked.{found_by}
use Rattle.fifo_ways.specs.Rows.{HaveRows}
use Rattle.fifo_ways.proofs.judge.rows_of.Given as goal

abbrev pub invariant-loop-cell : goal.invariant-loop-cell
invariant-loop-cell l = HaveRows l.graph (found_by l.marked) l.cells (take l.cell-index l.cells) l.rows
