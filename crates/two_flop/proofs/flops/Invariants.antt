-- The signals of the flops that so many rounds reach are marked.
use Rattle.std.proofs.Common.{◌≡◌, [], length}
use Rattle.cdc_base.specs.declared.bit.Bit.{Bit}
use Rattle.domains.specs.Nets.{IsNet}
use Rattle.cdc_model.specs.Nets.{HasNextCells}
use Rattle.cdc_model.specs.Readers.{IsMarked}
use Rattle.cdc_model.specs.Tables.{ShowsNet}
use Rattle.two_flop.specs.Flops.{EndInRegisters, IsReached}
use Rattle.two_flop.proofs.flops.Given as goal

abbrev pub invariant-loop : goal.invariant-loop
invariant-loop l = record {
  counted : length l.marks.items ≡ length l.net.graph.signals;
  marked : IsNet l.net → HasNextCells l.net → ShowsNet l.net [] l.table → EndInRegisters l.net l.crossings
      → (x : Bit) → IsReached l.net l.crossings l.counter x → IsMarked l.marks.items x.sig;
}
