use Rattle.std.proofs.Common.{◌≡◌, ◌∙◌, sym, subst, refl, length, List}
use Rattle.std.proofs.lemmas.Result.{err_from_is_err_and}
use Rattle.cdc_model.specs.declared.record.Given.{Given}
use Rattle.settling_sim.specs.Opened.{AreStarts, IsOpened}
use Rattle.run_report.proofs.Going.{begun-text, stopped-run, whole-run}
use Rattle.run_report.proofs.run.run_text.Goals as goal

pub returns-in_err-sim-clause-exact : goal.returns-in_err-sim-clause-exact
returns-in_err-sim-clause-exact c = λ print can starts steps. let p = err_from_is_err_and c.from_residual.result c.from_residual.ensures.1 in rw (p.1, p.2) tt

pub returns-in_err-start-clause-exact : goal.returns-in_err-start-clause-exact
returns-in_err-start-clause-exact c = λ print can starts steps. let p = err_from_is_err_and c.from_residual-in_err-start.result c.from_residual-in_err-start.ensures.1 in rw (p.1, p.2) tt

pub returns-in_err-add_bytes-clause-exact : goal.returns-in_err-add_bytes-clause-exact
returns-in_err-add_bytes-clause-exact c = λ print can starts steps. let p = err_from_is_err_and c.from_residual-in_err-add_bytes.result c.from_residual-in_err-add_bytes.ensures.1 in rw (p.1, p.2) tt

pub returns-in_err-add_end-clause-exact : goal.returns-in_err-add_end-clause-exact
returns-in_err-add_end-clause-exact c = λ print can starts steps. let p = err_from_is_err_and c.from_residual-in_err-add_end.result c.from_residual-in_err-add_end.ensures.1 in rw (p.1, p.2) tt

pub returns-in_err-add_steps-clause-exact : goal.returns-in_err-add_steps-clause-exact
returns-in_err-add_steps-clause-exact c = λ print can starts steps.
    let same : c.as_slice.result.now ≡ c.args.run.now.start = c.as_slice.ensures in
    let fit : AreStarts c.args.net.now c.args.domains.now c.as_slice.result.now = subst (λ (gs : List Given). AreStarts c.args.net.now c.args.domains.now gs) (sym same) starts in
    let opened : IsOpened c.args.run.now.start c.in_ok-sim.sim = subst (λ (gs : List Given). IsOpened gs c.in_ok-sim.sim) same (c.in_ok-sim.ensures.opened can fit) in
    let begun = begun-text c.args.net.now c.args.domains.now c.in_ok-sim.sim c.new-text.result c.words.result.now c.in_ok-start.start c.as_slice-2.result.now c.add_bytes.new.self c.new-text.ensures c.words.ensures
    (c.in_ok-start.ensures print) c.as_slice-2.ensures c.in_ok-add_bytes.ensures in
    let p = err_from_is_err_and c.from_residual-in_err-add_steps.result c.from_residual-in_err-add_steps.ensures.1 in
    rw (p.1, p.2) (stopped-run c.args.net.now c.args.domains.now c.in_ok-sim.sim c.args.run.now c.as_slice-steps.result.now c.add_bytes.new.self _ c.in_ok-sim.ensures.net c.in_ok-sim.ensures.domains
    opened begun c.as_slice-steps.ensures steps (c.in_err-add_steps.ensures.exact print))

pub returns-clause-exact : goal.returns-clause-exact
returns-clause-exact c = λ print can starts steps.
    let same : c.as_slice.result.now ≡ c.args.run.now.start = c.as_slice.ensures in
    let fit : AreStarts c.args.net.now c.args.domains.now c.as_slice.result.now = subst (λ (gs : List Given). AreStarts c.args.net.now c.args.domains.now gs) (sym same) starts in
    let opened : IsOpened c.args.run.now.start c.in_ok-sim.sim = subst (λ (gs : List Given). IsOpened gs c.in_ok-sim.sim) same (c.in_ok-sim.ensures.opened can fit) in
    let begun = begun-text c.args.net.now c.args.domains.now c.in_ok-sim.sim c.new-text.result c.words.result.now c.in_ok-start.start c.as_slice-2.result.now c.add_bytes.new.self c.new-text.ensures c.words.ensures
    (c.in_ok-start.ensures print) c.as_slice-2.ensures c.in_ok-add_bytes.ensures in
    whole-run c.args.net.now c.args.domains.now c.in_ok-sim.sim c.args.run.now c.as_slice-steps.result.now c.add_bytes.new.self c.add_steps.new.text c.into_list.result (length c.as_slice-steps.result.now) c.in_ok-sim.ensures.net c.in_ok-sim.ensures.domains
    opened begun c.as_slice-steps.ensures steps (c.in_ok-add_steps.ensures.exact print) refl (c.into_list.ensures ∙ c.in_ok-add_end.ensures)
