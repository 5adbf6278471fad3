-- The signals of the arrivals so far are marked.
use Rattle.std.proofs.Common.{◌≡◌, ◌<◌, take, length, Contains}
use Rattle.cdc_model.specs.declared.scheme.Arrival.{Arrival}
use Rattle.cdc_model.specs.Readers.{IsMarked}
use Rattle.obligations.proofs.arrivals.marks_of.Given as goal

abbrev pub invariant-loop-arrival : goal.invariant-loop-arrival
invariant-loop-arrival l = (length l.marks.items ≡ length l.net.graph.signals)
    × ((a : Arrival) → Contains (take l.arrival-index l.arrivals) a → a.bit.sig < length l.net.graph.signals → IsMarked l.marks.items a.bit.sig)
