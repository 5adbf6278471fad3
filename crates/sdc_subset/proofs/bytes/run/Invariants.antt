use Rattle.std.proofs.Common.{◌≡◌, ◌+◌, drop}
use Rattle.std.specs.List.{prefix_len}
use Rattle.sdc_subset.specs.Bytes.{in_class}
use Rattle.sdc_subset.proofs.bytes.run.Given as goal

abbrev pub invariant-loop-byte : goal.invariant-loop-byte
invariant-loop-byte l =
    (prefix_len (in_class l.class) l.text ≡ l.count + prefix_len (in_class l.class) (drop l.byte-index l.text)) × (l.count ≡ l.byte-index)
