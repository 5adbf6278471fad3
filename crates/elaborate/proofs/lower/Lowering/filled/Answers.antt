use Rattle.std.proofs.Common.{◌≡◌, ◌+◌, ◌-◌, subst, arith}
use Rattle.cell_graph.specs.Tree.{Const}
use Rattle.flat_meaning.specs.Trees.{glue}
use Rattle.elaborate.specs.Lowered.{HasTree}
use Rattle.elaborate.proofs.Grown.{grows_refl, grows_trans}
use Rattle.elaborate.proofs.CellTrees.{filled-same, joined-kept}
use Rattle.elaborate.proofs.lower.Lowering.filled.Goals as goal

pub returns-then-end-bits-clause-filled : goal.returns-then-end-bits-clause-filled
returns-then-end-bits-clause-filled c = λ u is low room.
    filled-same c.args.self.now.graph c.args.joined u c.args.bits c.args.end (omega (arith, low, c.if-end-bits.true)) is

pub returns-clause-grown : goal.returns-clause-grown
returns-clause-grown c = grows_trans c.args.self.now.graph c.zero.new.self.graph c.above.new.self.graph c.in_ok-zero.ensures.grown c.in_ok-whole.ensures.grown

pub returns-clause-filled : goal.returns-clause-filled
returns-clause-filled c = λ u is low room.
    let more = c.args.end - c.args.bits in
    let zero = c.in_ok-zero.ensures.zero (omega (arith, c.if-end-bits.false)) (omega (arith, room)) in
    let below = joined-kept c.args.self.now.graph c.zero.new.self.graph c.in_ok-zero.ensures.grown c.args.joined u c.args.bits is in
    let whole = c.in_ok-whole.ensures.above (Const more 0) u more c.args.bits zero below (omega (arith, c.if-end-bits.false)) (omega (arith, room, low)) in
    let size : more + c.args.bits ≡ c.args.end = omega (arith, low) in
    (omega (arith, c.if-end-bits.false), subst (λ k. HasTree c.above.new.self.graph c.in_ok-whole.whole (glue more (Const more 0) c.args.bits u) k) size whole)
