use Rattle.std.proofs.Common.{sym, ◌∙◌, arith}
use Rattle.flat_names.proofs.Selected.{count-small}
use Rattle.flat_names.proofs.select.count.Goals as goal

pub returns-in-Some : goal.returns-in-Some
returns-in-Some c = λ t h.
    let n = c.in-Some.count in let g = c.in_ok-count.ensures t h in
    let small = count-small t n (sym g.0 ∙ c.in-Some.is) in
    (c.narrowed.ensures (omega arith) ∙ sym c.in-Some.is ∙ g.0, g.1)

pub returns-in-None : goal.returns-in-None
returns-in-None c = λ t h. let g = c.in_ok-count.ensures t h in (sym c.in-None.is ∙ g.0, g.1)
