use Rattle.std.proofs.Common.{◌≡◌, ◌++◌, drop, []}
use Rattle.sdc_subset.specs.Bytes.{in_class}
use Rattle.sdc_subset.proofs.Pieces.{pieces_behind}
use Rattle.sdc_subset.proofs.bytes.pieces.Given as goal

abbrev pub invariant-loop-byte : goal.invariant-loop-byte
invariant-loop-byte l =
    pieces_behind (in_class l.class) [] l.text ≡ l.pieces ++ pieces_behind (in_class l.class) l.piece (drop l.byte-index l.text)
