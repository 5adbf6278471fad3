use Rattle.std.proofs.Common.{sym, subst}
use Rattle.std.specs.Prelude.{Err, map}
use Rattle.std.proofs.lemmas.Result.{err_from_is_err_and}
use Rattle.flat_form.specs.View.{reset_of}
use Rattle.flat_unfolding.specs.Outcome.{Outcome}
use Rattle.flat_unfolding.specs.Drivers.{all_drivers, is_double, is_read, is_undriven, refuse_first}
use Rattle.flat_drivers.specs.Driving.{Meets, design_of}
use Rattle.flat_drivers.proofs.Trials.{finished, meets-first, meets-then, all-doubles}
use Rattle.flat_drivers.proofs.drivers.try_drivers.Goals as goal

pub returns-in_err-try_doubles-clause-exact : goal.returns-in_err-try_doubles-clause-exact
returns-in_err-try_doubles-clause-exact c = λ f is small few.
    let g = design_of c.args.signals.now c.args.assigns.now c.args.combs.now c.args.clocked.now in
    let rs = map reset_of c.args.resets.now in
    let q = err_from_is_err_and c.from_residual-in_err-try_doubles.result c.from_residual-in_err-try_doubles.ensures.1 in
    rw (q.1, q.2) (subst (λ (o : Outcome (Unit {0})). Meets o (Err c.in_err-try_doubles.field-0.0)) (sym (finished g f is rs))
    (meets-first (refuse_first 309 (λ s x i. is_double g rs s i) 0 g.signals) (λ u. refuse_first 310 (is_undriven g) 0 g.signals) c.in_err-try_doubles.field-0.0
    (c.in_err-try_doubles.ensures.exact (is_double g rs) small few (all-doubles g rs c.in_ok-drivers.drivers c.in_ok-drivers.ensures))))

pub returns-clause-exact : goal.returns-clause-exact
returns-clause-exact c = λ f is small few.
    let g = design_of c.args.signals.now c.args.assigns.now c.args.combs.now c.args.clocked.now in
    let rs = map reset_of c.args.resets.now in
    subst (λ (o : Outcome (Unit {0})). Meets o c.refuse_undriven.result) (sym (finished g f is rs))
    (meets-then (refuse_first 309 (λ s x i. is_double g rs s i) 0 g.signals) (λ u. refuse_first 310 (is_undriven g) 0 g.signals) c.refuse_undriven.result
    (c.in_ok-try_doubles.ensures.exact (is_double g rs) small few (all-doubles g rs c.in_ok-drivers.drivers c.in_ok-drivers.ensures))
    (c.refuse_undriven.ensures.exact (is_read g) (all_drivers g) small few c.in_ok-drivers.ensures.driven (λ s i l m. c.in_ok-reads.ensures s i m)))
