-- The items so far are Gray registers.
use Rattle.std.proofs.Common.{[]}
use Rattle.cell_graph.specs.Shared.{IsShared}
use Rattle.domains.specs.Nets.{IsNet}
use Rattle.cdc_model.specs.GrayShape.{IsGrayReg}
use Rattle.cdc_model.specs.Nets.{HasNextCells, design_of, next_tree}
use Rattle.cdc_model.specs.Tables.{ShowsNet}
use Rattle.gray_pointer.specs.Registers.{AreStartsNarrow}
use Rattle.cert_check.specs.Items.{AllBefore}
use Rattle.cert_check.proofs.grays.first_bad_gray.Given as goal

abbrev pub invariant-loop-place : goal.invariant-loop-place
invariant-loop-place l = IsNet l.net → HasNextCells l.net → IsShared l.net.graph → AreStartsNarrow l.net → ShowsNet l.net [] l.plain
    → AllBefore (IsGrayReg (design_of l.net l.domains) (next_tree l.net)) l.grays l.place
