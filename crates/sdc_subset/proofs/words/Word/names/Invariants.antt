use Rattle.std.proofs.Common.{◌≡◌, ◌++◌, drop}
use Rattle.std.specs.Prelude.{option_map}
use Rattle.sdc_subset.specs.Words.{names_of, names_from}
use Rattle.sdc_subset.proofs.words.Word.names.Given as goal

abbrev pub invariant-loop-mark : goal.invariant-loop-mark
invariant-loop-mark l = names_of l.collection l.mark-items
    ≡ option_map (λ rest. l.names ++ rest) (names_from l.collection l.bracket (drop l.mark-index l.mark-items))
