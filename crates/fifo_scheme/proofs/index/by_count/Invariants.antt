-- The places so far are those of the sides so far.
use Rattle.std.proofs.Common.{◌≡◌}
use Rattle.fifo_parts.specs.declared.side.Side.{Side}
use Rattle.fifo_parts.specs.Words.{lowest}
use Rattle.fifo_scheme.proofs.IndexPlaces.{ArePlacesBelow}
use Rattle.fifo_scheme.proofs.index.by_count.Given as goal

abbrev pub invariant-loop-place : goal.invariant-loop-place
invariant-loop-place l = ArePlacesBelow (λ b (s : Side). b ≡ lowest s.reg.count) l.sides l.place l.places
