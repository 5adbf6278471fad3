use Rattle.std.proofs.Common.{◌≡◌, drop}
use Rattle.std.specs.List.{list_all}
use Rattle.sdc_subset.specs.declared.bytes.Class.TheVariants.{Ordinary}
use Rattle.sdc_subset.specs.Bytes.{in_class}
use Rattle.sdc_subset.proofs.commands.is_ordinary.Given as goal

abbrev pub invariant-loop-chunk : goal.invariant-loop-chunk
invariant-loop-chunk l =
    list_all (list_all (in_class Ordinary)) l.chunks ≡ list_all (list_all (in_class Ordinary)) (drop l.chunk-index l.chunks)
