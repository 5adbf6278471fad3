use Rattle.std.proofs.Common.{cond, [], None, refl, sym, ap, subst, ◌∙◌, arith}
use Rattle.flat_unfolding.specs.Outcome.{breaks}
use Rattle.flat_unfolding.specs.Targets.{fixed, a_word, nowhere}
use Rattle.flat_names.specs.Noting.{noted}
use Rattle.flat_names.specs.Looks.{memory_of}
use Rattle.flat_targets.specs.Aims.{IsAim}
use Rattle.flat_names.proofs.Looked.{own-is}
use Rattle.flat_targets.proofs.Aimed.{aim-nowhere}
use Rattle.flat_targets.proofs.AimedWords.{along-goal, word-there, memory-constant, memory-variable}
use Rattle.flat_targets.proofs.target.word_aim.Goals as goal

pub returns-then-index : goal.returns-then-index
returns-then-index c = λ l t u h most few is sound.
    let x = c.args.name.now in
    let b = memory_of c.args.memory in
    let w = c.word-word.ensures (omega arith) in
    along-goal _ _ (memory-constant l u x b t c.args.index is sound c.if-index.true c.own_value.result (own-is c.args.index.expr c.own_value.result (is.sized sound) (c.own_value.ensures (is.sized sound)).0) c.word-word.result w) _ _ _
    (c.in_ok-fixed.ensures l u h (λ k e. word-there b c.own_value.result k _ (sym w ∙ e) most))

pub returns-then-not-may_index_words : goal.returns-then-not-may_index_words
returns-then-not-may_index_words c = λ l t u h most few is sound.
    let x = c.args.name.now in
    along-goal _ _ (memory-variable l u x (memory_of c.args.memory) t c.args.index is sound c.if-index.false c.width.result c.width.ensures c.may_index_words.result c.may_index_words.ensures
    ∙ ap (λ b. cond b (a_word (memory_of c.args.memory) t.expr []) (fixed (nowhere (breaks 315 x)))) c.if-not-may_index_words.true) _ _ _
    (subst (IsAim (nowhere (breaks 315 x))) (sym c.nowhere.ensures) (aim-nowhere (breaks 315 x)), c.in_ok-note.ensures ∙ ap (λ y. noted c.args.faults.now (record { number = 315; name = y; place = None })) c.as_str.ensures)

pub returns : goal.returns
returns c = λ l t u h most few is sound.
    let x = c.args.name.now in
    along-goal _ _ (memory-variable l u x (memory_of c.args.memory) t c.args.index is sound c.if-index.false c.width.result c.width.ensures c.may_index_words.result c.may_index_words.ensures
    ∙ ap (λ b. cond b (a_word (memory_of c.args.memory) t.expr []) (fixed (nowhere (breaks 315 x)))) c.if-not-may_index_words.false) _ _ _
    ((refl, is.expr sound, is.sized sound), refl)
