-- Run by run, up to the first that shows a capture.
use Rattle.std.proofs.Common.{◌≡◌, ◌∙◌, sym, None, true}
use Rattle.std.specs.Prelude.{is_some}
use Rattle.campaign.specs.Campaign.{in_lanes}
use Rattle.campaign.specs.Run.{domains_of, net_of}
use Rattle.campaign.proofs.RunLists.{all-gone, lane-found, lane-passed, lanes-begin, lanes-end, none-there, some-there}
use Rattle.campaign.proofs.runs.step_runs.Goals as goal

pub loop-index-init : goal.loop-index-init
loop-index-init c = λ named seed n planned runs values space next. (runs, values, space, lanes-begin (net_of c.args.plan.now) (domains_of c.args.plan.now) named n seed)

pub loop-index-preserved : goal.loop-index-preserved
loop-index-preserved c = λ named seed n planned runs values space next.
    let h = c.loop-index.invariant named seed n planned runs values space next in
    let one = c.in_ok-found.ensures named seed n planned h.0 h.1 h.2 next c.loop-index-test.true in
    let none : c.in_ok-found.found ≡ None = none-there c.in_ok-found.found (sym c.is_some.ensures ∙ c.if-is_some.false) in (
      one.are_runs none,
      one.are_values none,
      one.space,
      lane-passed (net_of c.args.plan.now) (domains_of c.args.plan.now) named n seed c.loop-index.index c.in_ok-found.found (in_lanes (net_of c.args.plan.now) (domains_of c.args.plan.now) named n seed 8)
          c.loop-index-test.true one.is_found none h.3,
    )

pub returns-then-is_some : goal.returns-then-is_some
returns-then-is_some c = λ named seed n planned runs values space next.
    let h = c.loop-index.invariant named seed n planned runs values space next in
    let one = c.in_ok-found.ensures named seed n planned h.0 h.1 h.2 next c.loop-index-test.true in
    let some : is_some c.in_ok-found.found ≡ true = sym c.is_some.ensures ∙ c.if-is_some.true in
    record {
      is_found = lane-found (net_of c.args.plan.now) (domains_of c.args.plan.now) named n seed c.loop-index.index c.in_ok-found.found (in_lanes (net_of c.args.plan.now) (domains_of c.args.plan.now) named n seed 8)
          c.loop-index-test.true one.is_found some h.3;
      are_runs = λ e. absurd (some-there c.in_ok-found.found some e);
      space = one.space;
    }

pub returns : goal.returns
returns c = λ named seed n planned runs values space next.
    let h = c.loop-index.invariant named seed n planned runs values space next in
    record {
      is_found = sym (h.3 ∙ lanes-end (net_of c.args.plan.now) (domains_of c.args.plan.now) named n seed c.loop-index.index c.loop-index-test.false);
      are_runs = λ e. all-gone (net_of c.args.plan.now) (domains_of c.args.plan.now) named seed n c.loop-index.index c.loop-index.runs.items c.loop-index-test.false h.0;
      space = h.2;
    }
