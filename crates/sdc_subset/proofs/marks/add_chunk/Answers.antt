use Rattle.std.proofs.Common.{◌∙◌, ◌<◌, ap, subst, sym, take, List, ℕ}
use Rattle.std.specs.Prelude.{All}
use Rattle.sdc_subset.proofs.Small.{run-small}
use Rattle.sdc_subset.proofs.marks.add_chunk.Goals as goal

pub add_plain-requires : goal.add_plain-requires
add_plain-requires c =
    let rest = c.split_at.result.1.now in
    subst (λ (word : List ℕ). All (λ b. b < 128) word)
    (sym (c.split_at-2.ensures.front ∙ ap (λ (n : ℕ). take n rest) c.run-2.ensures.longest)) (run-small rest)
