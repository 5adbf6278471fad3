-- The reads so far were added.
use Rattle.std.proofs.Common.{take}
use Rattle.fifo_scheme.specs.Candidates.{Grows, IsAt, OfOne}
use Rattle.fifo_scheme.proofs.finder.add_reads.Given as goal

abbrev pub invariant-loop-read : goal.invariant-loop-read
invariant-loop-read l = Grows l.index.sides.items (OfOne (IsAt l.index.sides.items l.write) (take l.read-index l.reads)) l.initial.candidates l.candidates
