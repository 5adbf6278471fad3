use Rattle.std.proofs.Common.{◌≡◌, ◌++◌, drop}
use Rattle.std.specs.Prelude.{option_map}
use Rattle.sdc_subset.specs.Words.{words_of, words_from}
use Rattle.sdc_subset.proofs.words.words.Given as goal

abbrev pub invariant-loop-mark : goal.invariant-loop-mark
invariant-loop-mark l = words_of l.marks ≡ option_map (λ rest. l.words ++ rest) (words_from l.nest l.word (drop l.mark-index l.marks))
