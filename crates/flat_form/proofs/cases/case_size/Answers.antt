use Rattle.std.proofs.Common.{◌≡◌, max, List, map, sym, ap, ◌∙◌, arith}
use Rattle.std.proofs.lemmas.List.{drop_all}
use Rattle.flat_meaning.specs.Flat.{size}
use Rattle.flat_form.specs.declared.flat.FCaseItem.{FCaseItem}
use Rattle.flat_form.specs.View.{expr_of, arm_of}
use Rattle.flat_form.proofs.Labels.{largest_in, largest-default}
use Rattle.flat_form.proofs.cases.case_size.Goals as goal

pub returns : goal.returns
returns c = λ d s r.
    let n = c.loop-item.size in
    let none : max n 0 ≡ n = omega arith in
    sym (ap (max (size (expr_of c.args.subject.now))) (largest-default (map arm_of c.args.items.now) d) ∙ (c.loop-item.invariant s r).1
    ∙ ap (λ (is : List FCaseItem). max n (largest_in is)) (drop_all c.loop-item.item-index c.args.items.now c.loop-item-test.false) ∙ none)
