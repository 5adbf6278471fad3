use Rattle.std.proofs.Common.{◌≡◌, ◌+◌, ◌∷◌, map, drop, sym, ap, ◌∙◌}
use Rattle.std.specs.List.{list_any}
use Rattle.std.proofs.lemmas.List.{drop_more, drop_all}
use Rattle.flat_unfolding.specs.Instances.{is_short}
use Rattle.flat_design.specs.declared.instance.Leaning.{Leaning}
use Rattle.flat_design.specs.Visiting.{leaning_in}
use Rattle.flat_design.proofs.Taken.{any-first, any-next}
use Rattle.flat_design.proofs.instance.has_short.Goals as goal

pub returns-then-is_short : goal.returns-then-is_short
returns-then-is_short c = λ pins s shows fit.
    let all = c.args.leaning.now in let i = c.loop-given.given-index in let x = c.given-item.result in let rest = drop (i + 1) all in
    let next : drop i all ≡ x ∷ rest = drop_more all i x c.loop-given-test.true ∙ ap (λ (z : Leaning). z ∷ rest) (sym c.given-item.is) in
    sym (c.loop-given.invariant pins s shows fit ∙ ap (λ gs. list_any (is_short s) (map leaning_in gs)) next
    ∙ any-first (is_short s) (leaning_in x) (map leaning_in rest) (sym (c.is_short.ensures pins s shows fit) ∙ c.if-is_short.true))

pub loop-given-preserved : goal.loop-given-preserved
loop-given-preserved c = λ pins s shows fit.
    let all = c.args.leaning.now in let i = c.loop-given.given-index in let x = c.given-item.result in let rest = drop (i + 1) all in
    let next : drop i all ≡ x ∷ rest = drop_more all i x c.loop-given-test.true ∙ ap (λ (z : Leaning). z ∷ rest) (sym c.given-item.is) in
    c.loop-given.invariant pins s shows fit ∙ ap (λ gs. list_any (is_short s) (map leaning_in gs)) next
    ∙ any-next (is_short s) (leaning_in x) (map leaning_in rest) (sym (c.is_short.ensures pins s shows fit) ∙ c.if-is_short.false)

pub returns : goal.returns
returns c = λ pins s shows fit.
    let all = c.args.leaning.now in let i = c.loop-given.given-index in
    sym (c.loop-given.invariant pins s shows fit ∙ ap (λ gs. list_any (is_short s) (map leaning_in gs)) (drop_all i all c.loop-given-test.false))
