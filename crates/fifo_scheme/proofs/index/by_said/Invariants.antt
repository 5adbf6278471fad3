-- The places so far are those of what register bits take so far.
use Rattle.std.proofs.Common.{◌≡◌, ℕ}
use Rattle.fifo_parts.specs.declared.words.Taking.{Taking}
use Rattle.fifo_parts.specs.Words.{lowest}
use Rattle.fifo_scheme.specs.Indexed.{IsFoundFrom}
use Rattle.fifo_scheme.proofs.IndexPlaces.{ArePlacesBelow}
use Rattle.fifo_scheme.proofs.index.by_said.Given as goal

abbrev pub invariant-loop-place : goal.invariant-loop-place
invariant-loop-place l = ArePlacesBelow (λ b (t : Taking). (count : ℕ) × (b ≡ lowest count)
    × IsFoundFrom l.net l.sides count t) l.takings l.place l.places
