-- The reads so far were added.
use Rattle.std.proofs.Common.{take}
use Rattle.fifo_scheme.specs.Candidates.{AreLookedUp, Grows, IsReadTo, OfOne}
use Rattle.fifo_scheme.proofs.finder.candidates.Given as goal

abbrev pub invariant-loop-read : goal.invariant-loop-read
invariant-loop-read l = AreLookedUp l.index → Grows l.index.sides.items (OfOne (IsReadTo l.net l.index) (take l.read-index l.index.reads)) l.initial.candidates l.candidates
