-- The sides that write were added so far.
use Rattle.std.proofs.Common.{take}
use Rattle.fifo_scheme.specs.Candidates.{Grows, IsAt, OfOne}
use Rattle.fifo_scheme.proofs.finder.add_sides.Given as goal

abbrev pub invariant-loop-write : goal.invariant-loop-write
invariant-loop-write l = Grows l.index.sides.items (OfOne (λ m. OfOne (IsAt l.index.sides.items m) l.reads) (take l.write-index l.writes)) l.initial.candidates l.candidates
