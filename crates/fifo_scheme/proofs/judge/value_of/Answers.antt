-- By the first word's node, which all take.
use Rattle.std.proofs.Common.{◌≡◌, ◌∙◌, ◌<◌, sym, ap, subst, ℕ, true, false}
use Rattle.std.specs.Option.{option_copied}
use Rattle.std.proofs.lemmas.Option.{slice_get-get_or}
use Rattle.fifo_scheme.specs.Met.{IsTakenBy, IsValue}
use Rattle.fifo_scheme.proofs.MetFound.{value_left, value_more, value_none, value_some}
use Rattle.fifo_scheme.proofs.judge.value_of.Goals as goal

pub returns-in_err-value : goal.returns-in_err-value
returns-in_err-value c = λ syncs grays write read met numbers depth.
    subst (IsValue c.args.shown.net.now c.args.shown.domains.now write read c.args.words.now) (sym c.from_residual-in_err-value.ensures)
    (value_none c.args.shown.net.now c.args.shown.domains.now c.args.shown.table.now syncs grays c.args.index.now c.args.pair.now write read met c.args.words.now c.in_ok-first.first.now (sym c.first.ensures.value ∙ ap option_copied c.in_ok-first.was)
    (subst (IsTakenBy c.args.shown.net.now c.in_ok-first.first.now) c.in_err-value.was (c.taken_by.ensures c.args.shown.net.now c.args.shown.domains.now syncs grays met.index)))

pub returns-then-not-takes : goal.returns-then-not-takes
returns-then-not-takes c = λ syncs grays write read met numbers depth.
    let value = subst (IsTakenBy c.args.shown.net.now c.in_ok-first.first.now) c.in_ok-value.was (c.taken_by.ensures c.args.shown.net.now c.args.shown.domains.now syncs grays met.index) in
    let l = subst (λ (n : ℕ). c.loop-word.word < n) depth c.loop-word-test.true in
    value_left c.args.shown.net.now c.args.shown.domains.now c.args.shown.table.now syncs grays c.args.index.now c.args.pair.now write read met c.args.words.now c.in_ok-first.first.now _ c.in_ok-value.value c.loop-word.word (sym c.first.ensures.value ∙ ap option_copied c.in_ok-first.was) value
    (slice_get-get_or c.args.words.now c.loop-word.word _ c.loop-word-test.true)
    (λ h. let yes = (c.takes.ensures syncs grays write read met numbers l value.1).1 h in let e : true ≡ false = sym yes ∙ c.if-not-takes.true in cc)

pub loop-word-preserved : goal.loop-word-preserved
loop-word-preserved c = λ syncs grays write read met numbers depth within.
    let l = subst (λ (n : ℕ). c.loop-word.word < n) depth c.loop-word-test.true in
    value_more c.args.shown.net.now c.args.shown.domains.now c.args.shown.table.now syncs grays c.args.index.now c.args.pair.now write read met c.args.words.now c.in_ok-value.value c.loop-word.word _ (slice_get-get_or c.args.words.now c.loop-word.word _ c.loop-word-test.true)
    ((c.takes.ensures syncs grays write read met numbers l within).0 c.if-not-takes.false)
    (c.loop-word.invariant syncs grays write read met numbers depth within)

pub returns : goal.returns
returns c = λ syncs grays write read met numbers depth.
    let value = subst (IsTakenBy c.args.shown.net.now c.in_ok-first.first.now) c.in_ok-value.was (c.taken_by.ensures c.args.shown.net.now c.args.shown.domains.now syncs grays met.index) in
    value_some c.args.shown.net.now c.args.shown.domains.now c.args.shown.table.now syncs grays c.args.index.now c.args.pair.now write read met
    c.args.words.now c.in_ok-value.value c.loop-word.word depth value.1 c.loop-word-test.false
    (c.loop-word.invariant syncs grays write read met numbers depth value.1)
