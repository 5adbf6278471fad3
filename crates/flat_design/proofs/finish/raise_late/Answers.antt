use Rattle.std.proofs.Common.{Option, Some, None, Ok, sym, subst, ◌∙◌}
use Rattle.flat_names.specs.declared.design.Late.{Late}
use Rattle.flat_names.specs.Designs.{ShowsDesign, Ends}
use Rattle.flat_design.proofs.Late.{none-late, some-late}
use Rattle.flat_design.proofs.finish.raise_late.Goals as goal

pub returns-in-Some-clause-exact : goal.returns-in-Some-clause-exact
returns-in-Some-clause-exact c = λ pins d h.
    let k = c.args.design.now in
    subst (λ (l : Option Late). Ends (λ (v : Unit {0}). ShowsDesign pins (record k { late = l }) d) d.late c.raise.result) (sym c.take.ensures.after)
    (some-late pins k d h c.in-Some.late c.raise.result (sym c.take.ensures.value ∙ c.in-Some.is) c.raise.ensures.exact)

pub returns-in-None-clause-exact : goal.returns-in-None-clause-exact
returns-in-None-clause-exact c = λ pins d h.
    let k = c.args.design.now in
    subst (λ (l : Option Late). Ends (λ (v : Unit {0}). ShowsDesign pins (record k { late = l }) d) d.late (Ok tt)) (sym c.take.ensures.after)
    (none-late pins k d h (sym c.take.ensures.value ∙ c.in-None.is))
