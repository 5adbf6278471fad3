use Rattle.std.proofs.Common.{◌≡◌, ◌-◌, arith, refl}
use Rattle.cell_graph.specs.Tree.{Const}
use Rattle.elaborate.proofs.Counts.{filled-whole}
use Rattle.elaborate.proofs.count.filled_up.Goals as goal

pub returns-then-end-bits : goal.returns-then-end-bits
returns-then-end-bits c = λ u is low. filled-whole c.args.low c.args.bits c.args.end u (omega (arith, low, c.if-end-bits.true)) is

pub returns-else-end-bits : goal.returns-else-end-bits
returns-else-end-bits c = λ u is low some. c.above.ensures (Const (c.args.end - c.args.bits) 0) u (c.args.end - c.args.bits) refl is (omega (arith, c.if-end-bits.false))
