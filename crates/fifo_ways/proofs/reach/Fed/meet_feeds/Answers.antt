-- One feed more is met, and in the end all.
use Rattle.std.proofs.Common.{sym}
use Rattle.cell_graph.specs.Cells.{cell_at}
use Rattle.cell_graph.specs.Feeds.{feeds_of}
use Rattle.fifo_ways.proofs.Walk.{feed-more, feed-only, feeds-end}
use Rattle.fifo_ways.proofs.reach.Fed.meet_feeds.Goals as goal

pub loop-n-preserved : goal.loop-n-preserved
loop-n-preserved c =
    let feeds = feeds_of c.args.graph.now (cell_at c.args.graph.now c.args.node.cell) c.args.node.at in
    let at = sym c.in-Some.ensures in
    record {
      there =
          feed-more feeds c.loop-n.n c.in-Some.feed at c.loop-n.self c.meet.new.self c.in_ok-meet.ensures.there c.in_ok-meet.ensures.kept
          c.loop-n.invariant.there;
      places = λ k m e. c.in_ok-meet.ensures.places k m (c.loop-n.invariant.places k m e);
      kept = λ m h. c.in_ok-meet.ensures.kept m (c.loop-n.invariant.kept m h);
      only = λ m h. feed-only feeds c.loop-n.n c.in-Some.feed at m (c.in_ok-meet.ensures.only m h) (c.loop-n.invariant.only m);
    }

pub returns-in_default-clause-there : goal.returns-in_default-clause-there
returns-in_default-clause-there c =
    λ m of. feeds-end (feeds_of c.args.graph.now (cell_at c.args.graph.now c.args.node.cell) c.args.node.at) c.loop-n.n c.loop-n.self
    (sym c.in_default.ensures) c.loop-n.invariant.there m of
