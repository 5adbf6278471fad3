use Rattle.std.proofs.Common.{◌≡◌, ◌+◌, ◌∷◌, drop, Some, sym, ap, subst, ◌∙◌}
use Rattle.std.specs.Option.{option_copied}
use Rattle.std.proofs.lemmas.List.{drop_more}
use Rattle.verilog_ast.specs.declared.Target.{Target}
use Rattle.flat_unfolding.specs.Targets.{first_name_in}
use Rattle.flat_unfolding.specs.Formed.{AreTargetsFormed}
use Rattle.flat_targets.specs.Aims.{trees_in}
use Rattle.flat_targets.proofs.target.+first_name.Goals as goal

pub first_name_of-returns-in-Some : goal.first_name_of-returns-in-Some
first_name_of-returns-in-Some t c = λ some formed.
    let all = c.args.targets.now in
    let i = c.loop-target.target-index in
    let x = c.target-item.result in
    let rest = drop (i + 1) all in
    let next : drop i all ≡ x ∷ rest = drop_more all i x c.loop-target-test.true ∙ ap (λ (z : Target). z ∷ rest) (sym c.target-item.is) in
    let start : all ≡ x ∷ rest = sym (ap (λ j. drop j all) (c.loop-target.invariant formed)) ∙ next in
    ap option_copied (sym c.in-Some.is) ∙ c.first_name.ensures (subst (λ ts. AreTargetsFormed (trees_in ts)) start formed).0 ∙ ap (λ ts. Some (first_name_in (trees_in ts))) (sym start)
