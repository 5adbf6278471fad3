use Rattle.std.proofs.Common.{◌∙◌, sym, ap₂, false, ◌++◌, arith}
use Rattle.std.proofs.lemmas.Grind.{common_steps}
use Rattle.cert_text.proofs.Cuts.{onto_none, word_ends, word_more}
use Rattle.cert_text.specs.Words.{words_from, onto_word}
use Rattle.cert_text.proofs.words.words.Goals as goal
use Rattle.cert_text.proofs.words.words.Goals.{then-parts_words+in_ok-push, else-parts_words+in_ok-push-2}

pub loop-byte-init : goal.loop-byte-init
loop-byte-init c = sym (onto_none false c.args.line.now) ∙ ap₂ (λ ws w. ws ++ onto_word w (words_from false c.args.line.now)) (sym c.new-words.ensures) (sym c.new-word.ensures)

pub loop-byte-preserved : goal.loop-byte-preserved
loop-byte-preserved c = elim c.if-parts_words.branch [
  | then-parts_words+in_ok-push w ↦
      let h = word_ends (words_from false c.args.line.now) c.loop-byte.words c.loop-byte.word c.args.line.now c.loop-byte.byte-index c.loop-byte.escaped c.loop-byte-test.true (sym c.parts_words.ensures ∙ w.if-parts_words.true) c.loop-byte.invariant in
      grind (arith, common_steps, h)
  | else-parts_words+in_ok-push-2 w ↦
      let h = word_more (words_from false c.args.line.now) c.loop-byte.words c.loop-byte.word c.args.line.now c.loop-byte.byte-index c.loop-byte.escaped c.loop-byte-test.true (sym c.parts_words.ensures ∙ w.if-parts_words.false) c.loop-byte.invariant in
      grind (arith, common_steps, h)
]
