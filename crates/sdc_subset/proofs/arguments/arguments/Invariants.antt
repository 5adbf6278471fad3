use Rattle.std.proofs.Common.{◌≡◌, ◌++◌, drop, map}
use Rattle.std.specs.Prelude.{option_map}
use Rattle.sdc_subset.specs.Arguments.{arguments_of, arguments_from}
use Rattle.sdc_subset.proofs.arguments.arguments.Given as goal

abbrev pub invariant-loop-word : goal.invariant-loop-word
invariant-loop-word l = arguments_of (map (λ o. o.now) l.valued) (map (λ o. o.now) l.flags) l.words
    ≡ option_map (λ rest. l.arguments ++ rest)
    (arguments_from (map (λ o. o.now) l.valued) (map (λ o. o.now) l.flags) l.pending (drop l.word-index l.words))
