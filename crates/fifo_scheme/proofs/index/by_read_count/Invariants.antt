-- The places so far are those of the reads so far.
use Rattle.std.proofs.Common.{◌≡◌}
use Rattle.fifo_parts.specs.declared.reads.Read.{Read}
use Rattle.fifo_parts.specs.Words.{lowest}
use Rattle.fifo_scheme.proofs.IndexPlaces.{ArePlacesBelow}
use Rattle.fifo_scheme.proofs.index.by_read_count.Given as goal

abbrev pub invariant-loop-place : goal.invariant-loop-place
invariant-loop-place l = ArePlacesBelow (λ b (r : Read). b ≡ lowest r.count) l.reads l.place l.places
