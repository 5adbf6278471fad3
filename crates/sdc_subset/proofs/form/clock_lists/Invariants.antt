use Rattle.std.proofs.Common.{◌≡◌, ◌++◌, drop, map}
use Rattle.std.specs.Prelude.{option_map}
use Rattle.sdc_subset.specs.Forms.{clock_lists}
use Rattle.sdc_subset.proofs.form.clock_lists.Given as goal

abbrev pub invariant-loop-word : goal.invariant-loop-word
invariant-loop-word l = clock_lists (map (λ w. w.now) l.words)
    ≡ option_map (λ rest. l.lists ++ rest) (clock_lists (map (λ w. w.now) (drop l.word-index l.words)))
