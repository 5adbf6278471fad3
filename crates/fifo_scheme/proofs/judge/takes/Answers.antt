-- By what the bit takes.
use Rattle.std.proofs.Common.{◌∙◌, ◌≡◌, sym, ap, true, false}
use Rattle.std.specs.Option.{option_copied}
use Rattle.fifo_scheme.proofs.MetFound.{takes_is, takes_nothing, takes_other}
use Rattle.fifo_scheme.proofs.judge.takes.Goals as goal

pub returns-then-are_same : goal.returns-then-are_same
returns-then-are_same c = λ syncs grays write read met numbers l within.
    takes_is c.args.shown.net.now c.args.shown.domains.now c.args.shown.table.now syncs grays c.args.index.now c.args.pair.now write read met
    c.args.bit c.in-Some.taking.now c.args.value c.args.word c.is_word_for.result
    (sym c.taking.ensures ∙ ap option_copied c.in-Some.is) (c.are_same.ensures.0 c.if-are_same.true)
    (λ taking. c.is_word_for.ensures write read met.shown met.pair taking numbers l)

pub returns-else-are_same : goal.returns-else-are_same
returns-else-are_same c = λ syncs grays write read met numbers l within. (
  λ yes. absurd (let e : true ≡ false = sym yes ∙ c.if-are_same.false in cc),
  λ h. absurd (takes_other c.args.shown.net.now c.args.shown.domains.now c.args.shown.table.now syncs grays c.args.index.now c.args.pair.now write read met c.args.bit c.in-Some.taking.now c.args.value c.args.word (sym c.taking.ensures ∙ ap option_copied c.in-Some.is)
      (λ same. let e : true ≡ false = sym (c.are_same.ensures.1 same) ∙ c.if-are_same.false in cc) within h),
)

pub returns-in-None : goal.returns-in-None
returns-in-None c = λ syncs grays write read met numbers l within. (
  λ yes. cc yes,
  λ h. absurd (takes_nothing c.args.shown.net.now c.args.shown.domains.now c.args.shown.table.now syncs grays c.args.index.now c.args.pair.now write read met c.args.bit c.args.value c.args.word (sym c.taking.ensures ∙ ap option_copied c.in-None.is) h),
)
