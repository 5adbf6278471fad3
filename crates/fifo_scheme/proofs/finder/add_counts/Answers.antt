use Rattle.std.proofs.Common.{arith}
use Rattle.fifo_scheme.specs.Candidates.{AreBy}
use Rattle.fifo_scheme.proofs.Growing.{grows_all, grows_more, grows_start}
use Rattle.fifo_scheme.proofs.finder.add_counts.Goals as goal

pub loop-wb-init : goal.loop-wb-init
loop-wb-init c = λ h. grows_start c.args.index.now.sides.items (λ wb k. AreBy c.args.index.now.sides.items wb c.args.rb k) c.args.counts.now c.args.candidates.now

pub loop-wb-preserved : goal.loop-wb-preserved
loop-wb-preserved c = λ h.
    grows_more c.args.index.now.sides.items (λ wb k. AreBy c.args.index.now.sides.items wb c.args.rb k) c.args.counts.now c.loop-wb.wb-index 0 c.args.candidates.now c.loop-wb.candidates c.add_sides.new.candidates
    (omega arith) (c.loop-wb.invariant h) (c.in_ok-add_sides.ensures h)

pub returns : goal.returns
returns c = λ h. grows_all c.args.index.now.sides.items (λ wb k. AreBy c.args.index.now.sides.items wb c.args.rb k) c.args.counts.now c.loop-wb.wb-index c.args.candidates.now c.loop-wb.candidates (omega arith) (c.loop-wb.invariant h)
