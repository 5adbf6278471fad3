use Rattle.std.proofs.Common.{◌≡◌, ◌<◌, ◌+◌, ℕ, suc, ◌∷◌, ◌==◌, cond, List, map, drop, Some, sym, ap, subst, ◌∙◌, arith}
use Rattle.std.specs.Prelude.{slice_get}
use Rattle.std.proofs.lemmas.List.{drop_more, drop_all}
use Rattle.std.proofs.lemmas.Option.{slice_get-get_or, slice_get_within}
use Rattle.verilog_ast.specs.declared.Module.{Module}
use Rattle.std.specs.Cmp.Lexicographic.{pointwise}
use Rattle.verilog_reading.specs.SourceTree.{module_of}
use Rattle.flat_unfolding.specs.Unfolding.{modules_differ}
use Rattle.flat_unfolding.specs.Outcome.{Text, good}
use Rattle.flat_names.specs.Noting.{Refuses}
use Rattle.flat_design.specs.Visiting.{IsLibrary, Lists}
use Rattle.flat_design.proofs.Libraries.{ReadSoFar, number_in, read-twice, read-more, refuses-lists, ok-holds, differ-all, library-all}
use Rattle.flat_design.proofs.visit.Library.new.Goals as goal

pub returns-then-contains_key-clause-exact : goal.returns-then-contains_key-clause-exact
returns-then-contains_key-clause-exact c =
    let all = c.as_slice-modules.result.now in let k = c.loop-number.number in let m = c.index-modules-number.result in
    let next : drop k all ≡ m ∷ drop (k + 1) all = drop_more all k m c.loop-number-test.true ∙ ap (λ (z : Module). z ∷ drop (k + 1) all) (sym c.index-modules-number.is) in
    subst (λ (ms : List Module). Lists ms c.refused.result) c.as_slice-modules.ensures
    (refuses-lists all (record { number = 304; place = Some m.place; name = m.name }) c.refused.result
    (subst (λ (x : Text). Refuses (record { number = 304; place = Some m.place; name = x }) c.refused.result) c.as_str.ensures c.refused.ensures.exact)
    (read-twice all k m (drop (k + 1) all) c.loop-number.by_name c.loop-number.invariant next (sym c.contains_key.ensures ∙ c.if-contains_key.true)))

pub loop-number-preserved : goal.loop-number-preserved
loop-number-preserved c =
    let all = c.as_slice-modules.result.now in let k = c.loop-number.number in let m = c.index-modules-number.result in
    let next : drop k all ≡ m ∷ drop (k + 1) all = drop_more all k m c.loop-number-test.true ∙ ap (λ (z : Module). z ∷ drop (k + 1) all) (sym c.index-modules-number.is) in
    let at : slice_get all k ≡ Some m = slice_get-get_or all k m c.loop-number-test.true ∙ ap Some (sym c.index-modules-number.is) in
    let e : k + 1 ≡ suc k = omega arith in
    let set = ok-holds c.insert.result c.if-is_err.ensures.negation c.insert.ensures.updates in
    subst (λ j. ReadSoFar all j c.insert.new.self) (sym e)
    (read-more all k m (drop (k + 1) all) c.loop-number.by_name c.loop-number.invariant next c.insert.new.self at (ap (λ j. drop j all) e) (sym c.contains_key.ensures ∙ c.if-contains_key.false)
    (λ x. set.0 x ∙ ap (λ (y : Text). cond (pointwise ◌==◌ y x) (Some k) (number_in c.loop-number.by_name x)) c.in_ok-copy.ensures))

pub returns-clause-exact : goal.returns-clause-exact
returns-clause-exact c =
    let all = c.as_slice-modules.result.now in let k = c.loop-number.number in
    let none = drop_all k all c.loop-number-test.false in
    let l = c.loop-number-test.false in
    let before = λ (j : ℕ) (q : Module) (at : slice_get all j ≡ Some q). let w = slice_get_within all j q at in let m : j < k = omega (arith, w, l) in m in (
      subst (λ (ms : List Module). modules_differ (map module_of ms) ≡ good tt) c.as_slice-modules.ensures (differ-all all k c.loop-number.by_name c.loop-number.invariant none before),
      c.as_slice-modules.ensures,
      subst (λ (ms : List Module). IsLibrary ms c.loop-number.by_name) c.as_slice-modules.ensures (library-all all k c.loop-number.by_name c.loop-number.invariant none before),
    )
