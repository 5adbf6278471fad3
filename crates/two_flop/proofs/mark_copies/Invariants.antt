-- The marks stay, and the signals of the copies so far are marked.
use Rattle.std.proofs.Common.{◌≡◌, ℕ, ◌<◌, true, Some, [], length, slice_get}
use Rattle.cdc_base.specs.declared.bit.Bit.{Bit}
use Rattle.domains.specs.Nets.{IsNet}
use Rattle.cdc_model.specs.Nets.{HasNextCells, is_register_bit}
use Rattle.cdc_model.specs.Readers.{IsMarked}
use Rattle.cdc_model.specs.Syncs.{copies}
use Rattle.cdc_model.specs.Tables.{ShowsNet}
use Rattle.two_flop.proofs.mark_copies.Given as goal

abbrev pub invariant-loop-bit : goal.invariant-loop-bit
invariant-loop-bit l = record {
  counted : length l.marks.items ≡ length l.initial.marks.items;
  kept : (sig : ℕ) → IsMarked l.initial.marks.items sig → IsMarked l.marks.items sig;
  marked : IsNet l.net → HasNextCells l.net → ShowsNet l.net [] l.table → length l.initial.marks.items ≡ length l.net.graph.signals
      → (i : ℕ) (x f : Bit) → i < l.bit-index → slice_get l.bits i ≡ Some x → is_register_bit l.net x ≡ true → copies l.net x f ≡ true
      → IsMarked l.initial.marks.items f.sig → IsMarked l.marks.items x.sig;
}
