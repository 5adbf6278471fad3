-- The run at the index goes a step.
use Rattle.std.proofs.Common.{◌≡◌, ℕ, zero, suc, ◌+◌, ◌<◌, List, [], ◌∷◌, length, get_or, Option, Some, None, sym, ap, subst, arith}
use Rattle.std.specs.Prelude.{slice_get}
use Rattle.cdc_model.specs.declared.scheme.Crossing.{Crossing}
use Rattle.campaign.specs.declared.run.Run.{Run}
use Rattle.campaign.specs.Run.{IsStepOfRun, domains_of, net_of}
use Rattle.campaign.proofs.RunLists.{not-shown, one-gone, shown, values-left}
use Rattle.campaign.proofs.runs.step_one.Goals as goal

get-at : (runs : List Run) (i : ℕ) (r : Run) → i < length runs → ((d : Run) → r ≡ get_or runs i d) → slice_get runs i ≡ Some r
get-at [] i r l h = absurd (omega arith)
get-at (q ∷ qs) zero r l h = ap Some (sym (h q))
get-at (q ∷ qs) (suc i) r l h = get-at qs i r (omega arith) h

pub returns-in-Some-captured : goal.returns-in-Some-captured
returns-in-Some-captured c = λ named seed n planned runs values space next small.
    let net = net_of c.args.plan.now in
    let domains = domains_of c.args.plan.now in
    let at = c.args.index in
    let run = c.in-Some.run'.now in
    let item = c.in-Some.ensures.item.3 in
    let there = get-at c.args.runs.now.items at run item.0 item.1 in
    let is = runs.left at run (omega arith) there in
    let step : IsStepOfRun net domains named (seed + at) n c.step.new.run (Some c.in-Some-captured.capture) =
    subst (λ (o : Option Crossing). IsStepOfRun net domains named (seed + at) n c.step.new.run o) c.in-Some-captured.is
    (c.in_ok-captured.ensures.stepped named (seed + at) n planned is next (values at run (omega arith) small there is.words) small space) in
    record {
      is_found = shown net domains named (seed + at) n c.in-Some-captured.capture c.step.new.run.steps c.found_in.result c.found_in.ensures step.1 step.0;
      are_runs = λ e. cc;
      are_values = λ e. cc;
      space = c.in_ok-captured.ensures.space named (seed + at) n planned is small space;
    }

pub returns-in-None : goal.returns-in-None
returns-in-None c = λ named seed n planned runs values space next small.
    let net = net_of c.args.plan.now in
    let domains = domains_of c.args.plan.now in
    let at = c.args.index in
    let run = c.in-Some.run'.now in
    let item = c.in-Some.ensures.item.3 in
    let there = get-at c.args.runs.now.items at run item.0 item.1 in
    let is = runs.left at run (omega arith) there in
    let step : IsStepOfRun net domains named (seed + at) n c.step.new.run None =
    subst (λ (o : Option Crossing). IsStepOfRun net domains named (seed + at) n c.step.new.run o) c.in-None.is
    (c.in_ok-captured.ensures.stepped named (seed + at) n planned is next (values at run (omega arith) small there is.words) small space) in
    record {
      is_found = not-shown net domains named (seed + at) n step.0;
      are_runs = λ e. one-gone net domains named seed n at c.args.runs.now.items runs c.step.new.run step.1;
      are_values = λ e. values-left net domains named seed n at c.args.runs.now.items runs c.step.new.run c.args.cells.now values;
      space = c.in_ok-captured.ensures.space named (seed + at) n planned is small space;
    }
