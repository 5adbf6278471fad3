-- The marks stay, and the signals of the bits so far are marked.
use Rattle.std.proofs.Common.{◌≡◌, ℕ, ◌<◌, Some, length, slice_get}
use Rattle.cdc_base.specs.declared.bit.Bit.{Bit}
use Rattle.cdc_model.specs.Readers.{IsMarked}
use Rattle.cert_check.proofs.syncs.mark_all.Given as goal

abbrev pub invariant-loop-bit : goal.invariant-loop-bit
invariant-loop-bit l = record {
  counted : length l.marks.items ≡ length l.initial.marks.items;
  marked : (i : ℕ) (b : Bit) → i < l.bit-index → slice_get l.bits i ≡ Some b → b.sig < length l.initial.marks.items → IsMarked l.marks.items b.sig;
  kept : (sig : ℕ) → IsMarked l.initial.marks.items sig → IsMarked l.marks.items sig;
}
