-- The places so far are found.
use Rattle.std.proofs.Common.{◌≡◌, take}
use Rattle.gray_pointer.proofs.candidates.places_at.Given as goal

abbrev pub invariant-loop-place : goal.invariant-loop-place
invariant-loop-place l = l.found.items ≡ take l.place-index l.place-items
