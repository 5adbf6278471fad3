use Rattle.std.proofs.Common.{Some, sym, ap, ◌∙◌}
use Rattle.flat_names.specs.declared.scope.Meaning.TheVariants as m
use Rattle.flat_names.specs.Looks.{memory_of}
use Rattle.flat_targets.proofs.Aimed.{ok-then, meaning-at}
use Rattle.flat_targets.proofs.AimedWords.{along-goal, chosen-is, not-false}
use Rattle.flat_targets.proofs.target.index_aim.Goals as goal

pub returns-in_ok-fixed-in-Some-Signal : goal.returns-in_ok-fixed-in-Some-Signal
returns-in_ok-fixed-in-Some-Signal c = λ l t u h fit is.
    let x = c.args.name.now in
    let s = c.in-Some-Signal in
    let e = meaning-at c.args.look.now l h x (Some (m.Signal s.sig)) (sym (s.is ∙ ap Some s.field-0-is) ∙ c.meaning.ensures) in
    along-goal _ _ (chosen-is l u x t c.args.index is (not-false c.args.index.is_sound c.if-not-index.false) _ e) _ _ _ (c.in_ok-fixed-in-Some-Signal.ensures l t u h fit (fit.signals x s.sig e) is (not-false c.args.index.is_sound c.if-not-index.false))

pub returns-in-Some-Memory : goal.returns-in-Some-Memory
returns-in-Some-Memory c = λ l t u h fit is.
    let x = c.args.name.now in
    let s = c.in-Some-Memory in
    let d = sym (s.is ∙ ap Some s.field-0-is) ∙ c.meaning.ensures in
    let e = meaning-at c.args.look.now l h x (Some (m.Memory s.memory)) d in
    ok-then c.word_aim.result _ _ (λ r k. along-goal _ _ (chosen-is l u x t c.args.index is (not-false c.args.index.is_sound c.if-not-index.false) _ e) r _ _ k)
    (c.word_aim.ensures l t u h (fit.memories x (memory_of s.memory) e).1 fit.few is (not-false c.args.index.is_sound c.if-not-index.false))
