-- The findings of the register bits so far have been added, and the table is as it was.
use Rattle.std.proofs.Common.{◌≡◌, Bool, List, [], take}
use Rattle.cdc_base.specs.declared.bit.Bit.{Bit}
use Rattle.cdc_model.specs.declared.scheme.GrayReg.{GrayReg}
use Rattle.cdc_model.specs.Nets.{bits_of_registers}
use Rattle.cdc_model.specs.Ordered.{IsAll}
use Rattle.cdc_model.specs.Readers.{ShowsBelow}
use Rattle.cdc_model.specs.Schemes.{Ring}
use Rattle.cdc_model.specs.Tables.{ShowsNet}
use Rattle.obligations.specs.Arrivals.{IsArrival, arrival_key, AreMarked, AddsReaders}
use Rattle.obligations.specs.Given.{AreFound, design_in, syncs_in}
use Rattle.obligations.proofs.arrivals.add_v6.Given as goal

abbrev pub invariant-loop-to : goal.invariant-loop-to
invariant-loop-to l = (l.plain ≡ l.initial.plain)
    × ((grays : GrayReg → Bool) (rings : List Ring) (is_extra : Bit → Bit → Bool) → AreFound grays rings l.found → ShowsNet l.found.net.now [] l.initial.plain
    → l.to-items ≡ bits_of_registers l.found.net.now.graph.signals l.found.net.now.regs
    → IsAll (IsArrival (design_in l.found) (syncs_in l.found)) arrival_key l.arrivals.items → AreMarked l.arrivals.items l.marks.items → ShowsBelow l.found.net.now l.marks.items l.below-inside.cells.items
    → AddsReaders grays rings is_extra l.found (take l.to-index l.to-items) l.initial.findings l.findings)
