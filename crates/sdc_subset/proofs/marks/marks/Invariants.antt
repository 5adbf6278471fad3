use Rattle.std.proofs.Common.{◌≡◌, ◌++◌, drop}
use Rattle.std.specs.Prelude.{option_map}
use Rattle.sdc_subset.specs.Marks.{marks_of}
use Rattle.sdc_subset.proofs.marks.marks.Given as goal

abbrev pub invariant-loop-chunk : goal.invariant-loop-chunk
invariant-loop-chunk l = marks_of l.chunks ≡ option_map (λ rest. l.marks ++ rest) (marks_of (drop l.chunk-index l.chunks))
