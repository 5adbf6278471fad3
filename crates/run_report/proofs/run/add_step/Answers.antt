use Rattle.std.proofs.Common.{◌∙◌, ◌++◌, ap}
use Rattle.std.proofs.lemmas.Result.{err_from_is_err_and}
use Rattle.run_report.proofs.Going.{fits-at, printed}
use Rattle.run_report.proofs.run.add_step.Goals as goal

pub returns-in_err-before-clause-exact : goal.returns-in_err-before-clause-exact
returns-in_err-before-clause-exact c = λ print at fits all. let p = err_from_is_err_and c.from_residual.result c.from_residual.ensures.1 in rw (p.1, p.2) tt

pub returns-in_err-go-clause-exact : goal.returns-in_err-go-clause-exact
returns-in_err-go-clause-exact c = λ print at fits all.
    let p = err_from_is_err_and c.from_residual-in_err-go.result c.from_residual-in_err-go.ensures.1 in
    rw (p.1, p.2) (c.in_err-go.ensures.exact at.can (fits-at c.args.net.now c.args.domains.now c.args.sim.now c.args.step.now at fits))

pub returns-in_err-added-clause-exact : goal.returns-in_err-added-clause-exact
returns-in_err-added-clause-exact c = λ print at fits all. let p = err_from_is_err_and c.from_residual-in_err-added.result c.from_residual-in_err-added.ensures.1 in rw (p.1, p.2) tt

pub returns-in_err-add_bytes-clause-exact : goal.returns-in_err-add_bytes-clause-exact
returns-in_err-add_bytes-clause-exact c = λ print at fits all. let p = err_from_is_err_and c.from_residual-in_err-add_bytes.result c.from_residual-in_err-add_bytes.ensures.1 in rw (p.1, p.2) tt

pub returns-clause-exact : goal.returns-clause-exact
returns-clause-exact c = λ print at fits all.
    printed c.args.net.now c.args.domains.now c.args.sim.now c.go.new.sim c.args.number c.args.step.now c.args.text.now c.add_bytes.new.self c.in_ok-added.added c.as_slice.result.now
    c.args.registers.now at (c.in_ok-go.ensures.exact at.can (fits-at c.args.net.now c.args.domains.now c.args.sim.now c.args.step.now at fits)) (c.as_slice.ensures.value ∙ c.in_ok-before.ensures) all
    (c.in_ok-added.ensures print) (c.in_ok-add_bytes.ensures ∙ ap (λ piece. c.args.text.now ++ piece) c.as_slice-2.ensures)
