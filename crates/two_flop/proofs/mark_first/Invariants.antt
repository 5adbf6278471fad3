-- The signals of the first flops so far are marked.
use Rattle.std.proofs.Common.{◌≡◌, ℕ, ◌<◌, true, Some, [], length, slice_get}
use Rattle.domains.specs.Nets.{IsNet}
use Rattle.cdc_model.specs.declared.scheme.Crossing.{Crossing}
use Rattle.cdc_model.specs.Nets.{HasNextCells}
use Rattle.cdc_model.specs.Readers.{IsMarked}
use Rattle.cdc_model.specs.Syncs.{copies}
use Rattle.cdc_model.specs.Tables.{ShowsNet}
use Rattle.two_flop.specs.Flops.{EndInRegisters}
use Rattle.two_flop.proofs.mark_first.Given as goal

abbrev pub invariant-loop-crossing : goal.invariant-loop-crossing
invariant-loop-crossing l = record {
  counted : length l.marks.items ≡ length l.initial.marks.items;
  marked : IsNet l.net → HasNextCells l.net → ShowsNet l.net [] l.table → EndInRegisters l.net l.crossings → length l.initial.marks.items ≡ length l.net.graph.signals
      → (i : ℕ) (k : Crossing) → i < l.crossing-index → slice_get l.crossings i ≡ Some k → copies l.net k.to k.from ≡ true → IsMarked l.marks.items k.to.sig;
}
