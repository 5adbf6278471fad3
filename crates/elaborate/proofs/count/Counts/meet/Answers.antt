use Rattle.elaborate.proofs.Counts.{counted-vertex}
use Rattle.elaborate.proofs.count.Counts.meet.Goals as goal

pub returns-clause-met : goal.returns-clause-met
returns-clause-met c = λ f sel can counted ends v old.
    counted-vertex sel c.args.sketch.now.drafts c.args.sketch.now.pieces.items c.args.self.now.cells.items c.keep.new.self.cells.items c.args.vertex c.counted-cells.result
    counted (c.counted-cells.ensures f sel can ends) c.keep.ensures.kept c.keep.ensures.past v old
