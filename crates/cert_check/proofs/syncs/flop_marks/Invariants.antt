-- The signals of the flops so far are marked.
use Rattle.std.proofs.Common.{◌≡◌, ℕ, ◌<◌, true, Some, length, slice_get, Contains}
use Rattle.cdc_base.specs.declared.bit.Bit.{Bit}
use Rattle.cdc_model.specs.declared.scheme.Sync.{Sync}
use Rattle.cdc_model.specs.Nets.{is_register_bit}
use Rattle.cdc_model.specs.Readers.{IsMarked}
use Rattle.cert_check.proofs.syncs.flop_marks.Given as goal

abbrev pub invariant-loop-sync : goal.invariant-loop-sync
invariant-loop-sync l = record {
  counted : length l.marks.items ≡ length l.net.graph.signals;
  marked : (i : ℕ) (s : Sync) (f : Bit) → i < l.sync-index → slice_get l.syncs i ≡ Some s → Contains s.flops f → is_register_bit l.net f ≡ true → IsMarked l.marks.items f.sig;
}
