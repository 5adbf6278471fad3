-- The copyings among all bits are those so far, then those among the bits that are left.
use Rattle.std.proofs.Common.{◌≡◌, ◌++◌, [], drop}
use Rattle.domains.specs.Nets.{IsNet}
use Rattle.cdc_model.specs.Nets.{HasNextCells, bits_of_registers}
use Rattle.cdc_model.specs.Tables.{ShowsNet}
use Rattle.obligations.specs.Arrivals.{copyings_among}
use Rattle.obligations.proofs.arrivals.copyings.Given as goal

abbrev pub invariant-loop-to : goal.invariant-loop-to
invariant-loop-to l = IsNet l.found.net.now → HasNextCells l.found.net.now → ShowsNet l.found.net.now [] l.table → l.bits ≡ bits_of_registers l.found.net.now.graph.signals l.found.net.now.regs
    → l.copyings.items ++ copyings_among l.found.net.now l.found.domains.now (drop l.to-index l.bits) ≡ copyings_among l.found.net.now l.found.domains.now l.bits
