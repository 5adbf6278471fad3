-- The reads so far are those at the bits so far.
use Rattle.std.proofs.Common.{Bool, List, take}
use Rattle.cdc_model.specs.declared.scheme.GrayReg.{GrayReg}
use Rattle.cdc_model.specs.Ordered.{IsAll, IsAscending}
use Rattle.cdc_model.specs.Schemes.{Ring}
use Rattle.obligations.specs.Arrivals.{IsArrival, arrival_key, by_bit, AreReadsIn}
use Rattle.obligations.specs.Given.{AreFound, design_in, syncs_in}
use Rattle.obligations.proofs.arrivals.reads_at.Given as goal

abbrev pub invariant-loop-bit : goal.invariant-loop-bit
invariant-loop-bit l = (grays : GrayReg → Bool) (rings : List Ring) → AreFound grays rings l.found → IsAll (IsArrival (design_in l.found) (syncs_in l.found)) arrival_key l.arrivals → IsAscending by_bit l.bits
    → AreReadsIn (design_in l.found) l.found.grays.now (syncs_in l.found) (take l.bit-index l.bits) l.reads.items
