use Rattle.elaborate.proofs.Counts.{cut-part, cut-whole}
use Rattle.elaborate.proofs.count.cut.Goals as goal

pub returns-then-own-width : goal.returns-then-own-width
returns-then-own-width c = λ t at is. cut-whole c.args.cells c.args.own at c.args.width t is c.if-own-width.true

pub returns-else-own-width : goal.returns-else-own-width
returns-else-own-width c = λ t at is. cut-part c.args.cells c.args.own at c.args.width t is c.saturating_add.result c.if-own-width.false c.saturating_add.ensures
