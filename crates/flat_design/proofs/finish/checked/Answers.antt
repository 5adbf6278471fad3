use Rattle.std.proofs.Common.{◌≡◌, sym, ap, ◌∙◌, subst, rules}
use Rattle.std.specs.Prelude.{Ok, Err}
use Rattle.flat_unfolding.specs.Outcome.{good}
use Rattle.flat_unfolding.specs.Unfolding as law
use Rattle.flat_unfolding.specs.Unfolding.{IsUnfolding}
use Rattle.flat_unfolding.specs.Signals.{with_free, with_constants}
use Rattle.flat_names.specs.Designs.{ShowsDesign}
use Rattle.flat_design.proofs.StartValues.{constants-fit}
use Rattle.flat_design.proofs.Freed.{free-fit}
use Rattle.flat_design.proofs.Finished.{trial, trial-passed, trial-failed}
use Rattle.flat_design.proofs.Late.{late-refused, late-passed}
use Rattle.flat_design.proofs.finish.checked.Goals as goal

pub returns-in_err-raise_late-clause-exact : goal.returns-in_err-raise_late-clause-exact
returns-in_err-raise_late-clause-exact c = λ d before fit-before.
    let pins = c.args.pins.now in let named = c.args.named.now in
    let e = c.in_err-raise_late.field-0.0 in
    let same : c.from_residual.result ≡ Err e = search rules in
    subst (IsUnfolding (law.finished named d)) (sym same)
    (late-refused named d e (λ (v : Unit {0}). ShowsDesign pins c.raise_late.new.design d) (c.in_err-raise_late.ensures.exact pins d before))

pub returns-in_err-try_drivers-clause-exact : goal.returns-in_err-try_drivers-clause-exact
returns-in_err-try_drivers-clause-exact c = λ d before fit-before.
    let pins = c.args.pins.now in let named = c.args.named.now in let free = with_free named d in let whole = with_constants free in
    let passed = c.in_ok-raise_late.ensures.exact pins d before in
    let free-fits = free-fit named d fit-before in
    let shows = c.in_ok-add_constants.ensures.exact pins free (c.in_ok-mark_free.ensures d passed.2) free-fits in
    let fit = constants-fit free free-fits in
    let e = c.in_err-try_drivers.field-0.0 in
    let same : c.from_residual-in_err-try_drivers.result ≡ Err e = search rules in
    subst (IsUnfolding (law.finished named d)) (sym same) (subst (λ o. IsUnfolding o (Err e)) (sym (late-passed named d passed.0 passed.1)) (trial-failed whole e
    (trial pins c.add_constants.new.design whole shows fit c.as_slice.result.now c.as_slice-2.result.now c.as_slice-3.result.now c.as_slice-4.result.now c.as_slice-5.result.now
    c.as_slice.ensures.value c.as_slice-2.ensures.value c.as_slice-3.ensures.value c.as_slice-4.ensures.value c.as_slice-5.ensures.value (Err e) c.in_err-try_drivers.ensures.exact)))

pub returns-clause-exact : goal.returns-clause-exact
returns-clause-exact c = λ d before fit-before.
    let pins = c.args.pins.now in let named = c.args.named.now in let free = with_free named d in let whole = with_constants free in
    let passed = c.in_ok-raise_late.ensures.exact pins d before in
    let free-fits = free-fit named d fit-before in
    let shows = c.in_ok-add_constants.ensures.exact pins free (c.in_ok-mark_free.ensures d passed.2) free-fits in
    let fit = constants-fit free free-fits in
    late-passed named d passed.0 passed.1
    ∙ trial-passed whole
    (trial pins c.add_constants.new.design whole shows fit c.as_slice.result.now c.as_slice-2.result.now c.as_slice-3.result.now c.as_slice-4.result.now c.as_slice-5.result.now
    c.as_slice.ensures.value c.as_slice-2.ensures.value c.as_slice-3.ensures.value c.as_slice-4.ensures.value c.as_slice-5.ensures.value (Ok tt) c.in_ok-try_drivers.ensures.exact)
    ∙ ap good (sym (c.in_ok-finished.ensures.exact pins whole shows fit))

pub returns-clause-sizes : goal.returns-clause-sizes
returns-clause-sizes c = λ d before.
    let passed = c.in_ok-raise_late.ensures.exact c.args.pins.now d before in
    c.in_ok-finished.ensures.sizes (c.in_ok-add_constants.ensures.sizes (c.in_ok-mark_free.ensures d passed.2).sizes)
