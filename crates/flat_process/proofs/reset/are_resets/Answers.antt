use Rattle.std.proofs.Common.{◌≡◌, ◌+◌, get_or, drop, sym, subst, ◌∙◌}
use Rattle.std.specs.List.{list_all}
use Rattle.std.proofs.lemmas.List.{drop_more, drop_all}
use Rattle.flat_unfolding.specs.Resets.{is_reset}
use Rattle.flat_process.proofs.ResetSignals.{some-fails, all-pass, all-not, all-then}
use Rattle.flat_process.proofs.reset.are_resets.Goals as goal

pub returns-then-not-is_reset : goal.returns-then-not-is_reset
returns-then-not-is_reset c = λ l shows.
    let all = c.args.signals.now in
    let i = c.loop-sig.sig-index in
    let s = get_or all i 0 in
    let before = subst (λ xs. list_all (is_reset l) xs ≡ list_all (is_reset l) all) (drop_more all i 0 c.loop-sig-test.true) (c.loop-sig.invariant l shows) in
    some-fails l all (all-not (is_reset l) s (drop (i + 1) all) (list_all (is_reset l) all) before (sym (c.is_reset.ensures l shows) ∙ c.if-not-is_reset.true))

pub loop-sig-preserved : goal.loop-sig-preserved
loop-sig-preserved c = λ l shows.
    let all = c.args.signals.now in
    let i = c.loop-sig.sig-index in
    let s = get_or all i 0 in
    let before = subst (λ xs. list_all (is_reset l) xs ≡ list_all (is_reset l) all) (drop_more all i 0 c.loop-sig-test.true) (c.loop-sig.invariant l shows) in
    all-then (is_reset l) s (drop (i + 1) all) (list_all (is_reset l) all) before (sym (c.is_reset.ensures l shows) ∙ c.if-not-is_reset.false)

pub returns : goal.returns
returns c = λ l shows.
    let all = c.args.signals.now in
    let pass = subst (λ xs. list_all (is_reset l) xs ≡ list_all (is_reset l) all) (drop_all c.loop-sig.sig-index all c.loop-sig-test.false) (c.loop-sig.invariant l shows) in
    all-pass l all c.is_empty.result pass c.is_empty.ensures
