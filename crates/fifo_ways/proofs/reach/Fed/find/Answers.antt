-- The feeds of one node more are met, and in the end those of all.
use Rattle.std.proofs.Common.{arith, sym}
use Rattle.fifo_ways.specs.Feeds.{first}
use Rattle.fifo_ways.proofs.Walk.{more_closed, more_below, all_fed}
use Rattle.fifo_ways.proofs.reach.Fed.find.Goals as goal

pub loop-place-init : goal.loop-place-init
loop-place-init c = record {
  roots = c.in_ok-fed.ensures.there;
  closed = λ k n m lt at of. absurd (omega arith);
  below = λ n h. first (c.in_ok-fed.ensures.only n h);
}

pub loop-place-preserved : goal.loop-place-preserved
loop-place-preserved c = record {
  roots = λ n h. c.in_ok-meet_feeds.ensures.kept n (c.loop-place.invariant.roots n h);
  closed =
      more_closed c.args.graph.now c.args.roots.now c.loop-place.fed c.meet_feeds.new.self c.loop-place.place c.in-Some.node (sym c.in-Some.ensures)
      c.in_ok-meet_feeds.ensures.places c.in_ok-meet_feeds.ensures.kept c.in_ok-meet_feeds.ensures.there c.in_ok-meet_feeds.ensures.only
      c.loop-place.invariant.closed;
  below =
      more_below c.args.graph.now c.args.roots.now c.loop-place.fed c.meet_feeds.new.self c.loop-place.place c.in-Some.node (sym c.in-Some.ensures)
      c.in_ok-meet_feeds.ensures.places c.in_ok-meet_feeds.ensures.kept c.in_ok-meet_feeds.ensures.there c.in_ok-meet_feeds.ensures.only
      c.loop-place.invariant.below;
}

pub returns-in_default : goal.returns-in_default
returns-in_default c = λ n. (
  c.loop-place.invariant.below n,
  all_fed c.args.graph.now c.args.roots.now c.loop-place.fed c.loop-place.place (sym c.in_default.ensures) c.loop-place.invariant.roots
      c.loop-place.invariant.closed n,
)
