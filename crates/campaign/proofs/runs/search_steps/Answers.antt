-- Step by step, up to the first in which a run shows a capture.
use Rattle.std.proofs.Common.{◌≡◌, ◌∙◌, ℕ, List, None, length, replicate, true, refl, sym, ap, subst}
use Rattle.std.specs.Prelude.{is_some}
use Rattle.std.proofs.lemmas.List.{length-replicate}
use Rattle.campaign.specs.declared.run.Run.{Run}
use Rattle.campaign.specs.Campaign.{in_steps}
use Rattle.campaign.specs.Rows.{AreValuesIn}
use Rattle.campaign.specs.Run.{IsPlanned, domains_of, net_of}
use Rattle.campaign.proofs.RunLists.{none-there, step-found, step-passed, steps-begin, steps-end}
use Rattle.campaign.proofs.StepRoom.{kept}
use Rattle.campaign.proofs.runs.search_steps.Goals as goal

pub loop-place-init : goal.loop-place-init
loop-place-init c = record {
  words = c.in_ok-words.ensures ∙ ap length c.signals.ensures;
  cells = ap length c.in_ok-cells.ensures.zeros ∙ length-replicate (length (net_of c.args.plan.now).graph.cells) (replicate 8 0);
  space = λ named planned. c.in_ok-room.ensures;
  runs = λ named planned. c.in_ok-runs.ensures planned.can named;
  steps = λ named planned. steps-begin (net_of c.args.plan.now) (domains_of c.args.plan.now) named c.args.seed c.args.steps;
}

pub loop-place-preserved : goal.loop-place-preserved
loop-place-preserved c =
    let net = net_of c.args.plan.now in
    let domains = domains_of c.args.plan.now in
    let inv = c.loop-place.invariant in
    let rows : length c.deref_mut.result.now ≡ length c.loop-place.words.items = ap length c.deref_mut.ensures.value in
    let none : c.in_ok-found.found ≡ None = none-there c.in_ok-found.found (sym c.is_some.ensures ∙ c.if-is_some.false) in
    let filled = λ (named : List ℕ) (planned : IsPlanned named c.args.plan.now).
    subst (λ (rs : List Run). AreValuesIn net rs 0 c.fill.new.cells) c.as_slice.ensures.value (c.fill.ensures.filled planned.can.is.graph (rows ∙ inv.words) inv.cells) in
    record {
      words = ap length (kept c.loop-place.words.len c.fill.new.rows _ (c.fill.ensures.rows ∙ rows ∙ sym c.loop-place.words.ok.0)) ∙ c.fill.ensures.rows ∙ rows ∙ inv.words;
      cells = c.fill.ensures.cells ∙ inv.cells;
      space = λ named planned.
          (c.in_ok-found.ensures named c.args.seed c.loop-place.place planned (inv.runs named planned) (filled named planned) (inv.space named planned) refl).space;
      runs = λ named planned.
          (c.in_ok-found.ensures named c.args.seed c.loop-place.place planned (inv.runs named planned) (filled named planned) (inv.space named planned) refl).are_runs none;
      steps = λ named planned.
          step-passed net domains named c.args.seed c.loop-place.place c.args.steps c.in_ok-found.found (in_steps net domains named c.args.seed 0 c.args.steps) c.loop-place-test.true
          (c.in_ok-found.ensures named c.args.seed c.loop-place.place planned (inv.runs named planned) (filled named planned) (inv.space named planned) refl).is_found none (inv.steps named planned);
    }

pub returns-then-is_some : goal.returns-then-is_some
returns-then-is_some c = λ named planned.
    let net = net_of c.args.plan.now in
    let domains = domains_of c.args.plan.now in
    let inv = c.loop-place.invariant in
    let some : is_some c.in_ok-found.found ≡ true = sym c.is_some.ensures ∙ c.if-is_some.true in
    let filled = subst (λ (rs : List Run). AreValuesIn net rs 0 c.fill.new.cells) c.as_slice.ensures.value
    (c.fill.ensures.filled planned.can.is.graph (ap length c.deref_mut.ensures.value ∙ inv.words) inv.cells) in
    let step = c.in_ok-found.ensures named c.args.seed c.loop-place.place planned (inv.runs named planned) filled (inv.space named planned) refl in
    step-found net domains named c.args.seed c.loop-place.place c.args.steps c.in_ok-found.found (in_steps net domains named c.args.seed 0 c.args.steps) c.loop-place-test.true
    step.is_found some (inv.steps named planned)

pub returns : goal.returns
returns c = λ named planned.
    sym (c.loop-place.invariant.steps named planned ∙ steps-end (net_of c.args.plan.now) (domains_of c.args.plan.now) named c.args.seed c.loop-place.place c.args.steps c.loop-place-test.false)
