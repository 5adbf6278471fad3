use Rattle.flat_declarations.proofs.Shown.{other-bounds, one-bounds}
use Rattle.flat_declarations.proofs.declare.has_other_range.Goals as goal

pub returns-then-ne : goal.returns-then-ne
returns-then-ne c = λ l shows some. other-bounds c.args.look.now l shows c.args.sig c.bounds-before.result c.args.bounds c.bounds-before.ensures c.ne.result _ c.ne.ensures c.if-ne.true

pub returns-else-ne : goal.returns-else-ne
returns-else-ne c = λ l shows some.
    one-bounds c.args.look.now l shows c.args.sig c.bounds-before.result c.args.bounds c.bounds-before.ensures c.ne.result c.is_some.result c.is_some-else-ne.result _ c.ne.ensures c.if-ne.false c.is_some.ensures
    c.is_some-else-ne.ensures some
