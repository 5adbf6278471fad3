-- Crossings that go by their ends.
use Rattle.std.specs.Prelude.{ℕ, List, [], ◌∷◌, ◌++◌, map}
use Rattle.cdc_model.specs.declared.scheme.Crossing.{Crossing}
use Rattle.cdc_model.specs.Verdict.{bit_key}
use Rattle.fifo_scheme.specs.declared.found.Ended.{Ended}
use Rattle.fifo_scheme.specs.declared.found.Fifo.{Fifo as Entry}

abbrev pub crossing_of : Ended → Crossing
crossing_of e = record { from = e.from; to = e.to }

abbrev pub ended_of : Crossing → Ended
ended_of c = record { to = c.to; from = c.from }

abbrev pub ended_key : Ended → List ℕ
ended_key e = bit_key e.to (bit_key e.from [])

-- the crossings of all FIFOs, one after the other
abbrev pub all_ended : List Entry → List Ended
all_ended [] = []
all_ended (e ∷ es) = map ended_of e.crossings ++ all_ended es
