use Rattle.std.proofs.Common.{ap, ◌∙◌}
use Rattle.flat_unfolding.specs.Names.{word_name}
use Rattle.flat_declarations.proofs.Judged.{word-noted}
use Rattle.flat_declarations.proofs.declare.note_taken_words.Goals as goal

pub loop-k-preserved : goal.loop-k-preserved
loop-k-preserved c = λ look shows.
    let k = c.loop-k.k in
    c.loop-k.invariant look shows
    ∙ word-noted look.names c.args.memory.now k c.args.words c.loop-k.faults c.note_declared.new.faults c.in_ok-name.name c.loop-k-test.true
    (c.in_ok-name.ensures ∙ c.as_str-in-loop-k.ensures.value ∙ c.in_ok-word.ensures ∙ ap (λ m. word_name m k) c.as_str.ensures) (c.in_ok-note_declared.ensures look shows)
