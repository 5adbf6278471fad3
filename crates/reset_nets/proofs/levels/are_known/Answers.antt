use Rattle.std.proofs.Common.{◌≡◌, ◌+◌, ℕ, Bool, get_or, drop, sym, subst, ◌∙◌}
use Rattle.std.specs.Prelude.{is_some}
use Rattle.std.specs.List.{list_all}
use Rattle.std.proofs.lemmas.List.{drop_more, drop_all}
use Rattle.reset_nets.specs.Finding.{known_in}
use Rattle.reset_nets.proofs.Reading.{some_fails, all_pass, all_not, all_then}
use Rattle.reset_nets.proofs.levels.are_known.Goals as goal

pub returns-then-not-is_known : goal.returns-then-not-is_known
returns-then-not-is_known c =
    let P : ℕ → Bool = λ s. is_some (known_in c.args.levels.now s) in
    let all = c.args.signals.now in
    let i = c.loop-sig.sig-index in
    let s = get_or all i 0 in
    let before = subst (λ xs. list_all P xs ≡ list_all P all) (drop_more all i 0 c.loop-sig-test.true) c.loop-sig.invariant in
    some_fails (known_in c.args.levels.now) all (all_not P s (drop (i + 1) all) (list_all P all) before (sym c.is_known.ensures ∙ c.if-not-is_known.true))

pub loop-sig-preserved : goal.loop-sig-preserved
loop-sig-preserved c =
    let P : ℕ → Bool = λ s. is_some (known_in c.args.levels.now s) in
    let all = c.args.signals.now in
    let i = c.loop-sig.sig-index in
    let s = get_or all i 0 in
    let before = subst (λ xs. list_all P xs ≡ list_all P all) (drop_more all i 0 c.loop-sig-test.true) c.loop-sig.invariant in
    all_then P s (drop (i + 1) all) (list_all P all) before (sym c.is_known.ensures ∙ c.if-not-is_known.false)

pub returns : goal.returns
returns c =
    let P : ℕ → Bool = λ s. is_some (known_in c.args.levels.now s) in
    let all = c.args.signals.now in
    let pass = subst (λ xs. list_all P xs ≡ list_all P all) (drop_all c.loop-sig.sig-index all c.loop-sig-test.false) c.loop-sig.invariant in
    all_pass (known_in c.args.levels.now) all c.is_empty.result pass c.is_empty.ensures
