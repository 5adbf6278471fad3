-- The readings are those of the register bits so far.
use Rattle.std.proofs.Common.{◌≡◌, []}
use Rattle.domains.specs.Fit.{Fit}
use Rattle.domains.specs.Nets.{IsNet}
use Rattle.cdc_model.specs.Nets.{HasNextCells}
use Rattle.cdc_model.specs.Tables.{ShowsNet}
use Rattle.fifo_scheme.proofs.IndexReadings.{AreReadingsBelow}
use Rattle.fifo_scheme.proofs.index.readings.Given as goal

abbrev pub invariant-loop-bit : goal.invariant-loop-bit
invariant-loop-bit l = (l.table ≡ l.initial.table)
    × (IsNet l.net → HasNextCells l.net → Fit l.net l.domains → ShowsNet l.net [] l.initial.table
    → AreReadingsBelow l.net l.domains l.bit-items l.bit-index l.readings)
