use Rattle.std.proofs.Common.{◌≡◌, ◌++◌, length}
use Rattle.cert_text.specs.Read.{ring_places}
use Rattle.cert_text.specs.Words.{lines_of}
use Rattle.cert_text.proofs.reading.ring_places.Given as goal

abbrev pub invariant-loop-rest : goal.invariant-loop-rest
invariant-loop-rest l = ring_places (lines_of l.text) ≡ l.places.items ++ ring_places (lines_of l.rest)

abbrev pub decreases-loop-rest : goal.decreases-loop-rest
decreases-loop-rest l = length l.rest
