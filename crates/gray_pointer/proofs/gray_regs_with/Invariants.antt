-- The list has the Gray registers among the registers so far.
use Rattle.std.proofs.Common.{[], take}
use Rattle.domains.specs.Nets.{IsNet}
use Rattle.cell_graph.specs.Shared.{IsShared}
use Rattle.cdc_model.specs.Nets.{HasNextCells}
use Rattle.cdc_model.specs.Tables.{ShowsNet}
use Rattle.gray_pointer.specs.Grays.{AreGrays}
use Rattle.gray_pointer.specs.Registers.{AreStartsNarrow}
use Rattle.gray_pointer.proofs.gray_regs_with.Given as goal

abbrev pub invariant-loop-gray : goal.invariant-loop-gray
invariant-loop-gray l = IsNet l.net → HasNextCells l.net → IsShared l.net.graph → AreStartsNarrow l.net → ShowsNet l.net [] l.plain
    → AreGrays l.net.graph l.registers (take l.gray-index l.registers) l.grays
