-- The lines are those of the FIFOs so far.
use Rattle.std.proofs.Common.{◌≡◌, ◌++◌, drop}
use Rattle.fifo_scheme.specs.Lines.{fifo_lines_from}
use Rattle.fifo_scheme.proofs.lines.fifo_lines.Given as goal

abbrev pub invariant-loop-fifo : goal.invariant-loop-fifo
invariant-loop-fifo l = fifo_lines_from l.net.graph.signals 1 l.fifos.fifos ≡ l.lines ++ fifo_lines_from l.net.graph.signals l.number
    (drop l.fifo-index l.fifos.fifos)
