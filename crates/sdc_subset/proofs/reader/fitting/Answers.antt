use Rattle.std.proofs.Common.{◌∙◌, ◌<◌, sym, subst, List, ℕ}
use Rattle.std.specs.Prelude.{All}
use Rattle.clock_constraints.specs.declared.InputPin.{InputPin}
use Rattle.sdc_subset.proofs.Fitting.{made-fit}
use Rattle.sdc_subset.proofs.reader.fitting.Goals as goal

pub returns-clause-fit : goal.returns-clause-fit
returns-clause-fit c =
    let inputs = c.args.made.inputs in
    let held = c.are_within.ensures.0 (c.if-not-are_within.false) in
    let there : All (λ (i : InputPin). i.clock < c.len.result) inputs =
    subst (λ (is : List InputPin). All (λ (i : InputPin). i.clock < c.len.result) is) c.as_slice.ensures held in
    made-fit c.args.made c.args.members.now c.args.pins.now c.requires
    (subst (λ (n : ℕ). All (λ (i : InputPin). i.clock < n) inputs) c.len.ensures there) (sym c.in_ok-are_distinct.ensures ∙ c.if-not-branch.false)
