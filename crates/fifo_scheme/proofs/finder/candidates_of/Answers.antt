use Rattle.std.proofs.Common.{arith}
use Rattle.fifo_scheme.specs.declared.found.FifoPair.{FifoPair}
use Rattle.fifo_scheme.specs.Candidates.{AreBy}
use Rattle.fifo_scheme.proofs.Growing.{grows_more}
use Rattle.fifo_scheme.proofs.finder.candidates_of.Goals as goal

pub loop-pair-preserved : goal.loop-pair-preserved
loop-pair-preserved c = λ h.
    grows_more c.args.index.now.sides.items (λ (p : FifoPair) k. AreBy c.args.index.now.sides.items p.wb p.rb k) c.args.pairs.now c.loop-pair.pair-index (record { wb = 0; rb = 0 })
    c.new-candidates.result c.loop-pair.candidates c.add_sides.new.candidates (omega arith) (c.loop-pair.invariant h) (c.in_ok-add_sides.ensures h)
