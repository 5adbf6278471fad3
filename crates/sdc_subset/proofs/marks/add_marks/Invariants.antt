use Rattle.std.proofs.Common.{◌≡◌, ◌++◌, map, take}
use Rattle.sdc_subset.specs.Marks.{mark_of}
use Rattle.sdc_subset.proofs.marks.add_marks.Given as goal

abbrev pub invariant-loop-byte : goal.invariant-loop-byte
invariant-loop-byte l = l.marks ≡ l.initial.marks ++ map mark_of (take l.byte-index l.bytes)
