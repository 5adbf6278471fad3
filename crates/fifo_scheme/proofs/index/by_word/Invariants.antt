-- The places so far are those of the readings so far.
use Rattle.std.proofs.Common.{Contains}
use Rattle.fifo_scheme.specs.declared.index.Reading.{Reading}
use Rattle.fifo_scheme.proofs.IndexPlaces.{ArePlacesBelow}
use Rattle.fifo_scheme.proofs.index.by_word.Given as goal

abbrev pub invariant-loop-place : goal.invariant-loop-place
invariant-loop-place l = ArePlacesBelow (λ b (r : Reading). Contains r.reads b) l.readings l.place l.places
