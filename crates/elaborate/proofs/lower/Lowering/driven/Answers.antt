use Rattle.std.proofs.Common.{◌≡◌, ◌∙◌, ◌-◌, sym, subst, arith}
use Rattle.cell_graph.specs.Tree.{Const}
use Rattle.flat_meaning.specs.Trees.{glue}
use Rattle.elaborate.specs.Lowered.{IsJoined}
use Rattle.elaborate.proofs.Grown.{grows_trans}
use Rattle.elaborate.proofs.lower.Lowering.driven.Goals as goal

pub returns-in-Some-clause-driven : goal.returns-in-Some-clause-driven
returns-in-Some-clause-driven c = λ sel can.
    let is = c.in_ok-joined.ensures.joined sel can in
    let n = c.in_ok-joined.joined.bits in let more = c.args.width - n in
    let whole = subst (λ o. IsJoined c.filled.new.self.graph o (glue more (Const more 0) n is.low) c.args.width) c.in-Some.is (c.in_ok-whole.ensures.filled is.low is.is is.within (omega (arith, can.room))) in
    record { word = whole.1.word; tree = whole.1.tree ∙ sym is.same }

pub returns-in-Some-clause-grown : goal.returns-in-Some-clause-grown
returns-in-Some-clause-grown c = grows_trans c.args.self.now.graph c.joined.new.self.graph c.filled.new.self.graph c.in_ok-joined.ensures.grown c.in_ok-whole.ensures.grown

pub returns-in_ok-zero-in-None-clause-grown : goal.returns-in_ok-zero-in-None-clause-grown
returns-in_ok-zero-in-None-clause-grown c =
    grows_trans c.args.self.now.graph c.filled.new.self.graph c.zero.new.self.graph
    (grows_trans c.args.self.now.graph c.joined.new.self.graph c.filled.new.self.graph c.in_ok-joined.ensures.grown c.in_ok-whole.ensures.grown) c.in_ok-zero-in-None.ensures.grown

-- a read has one bit at least
pub returns-in_ok-zero-in-None-clause-driven : goal.returns-in_ok-zero-in-None-clause-driven
returns-in_ok-zero-in-None-clause-driven c = λ sel can.
    let is = c.in_ok-joined.ensures.joined sel can in
    let n = c.in_ok-joined.joined.bits in let more = c.args.width - n in
    let none : c.args.width ≡ 0 = subst (λ o. IsJoined c.filled.new.self.graph o (glue more (Const more 0) n is.low) c.args.width) c.in-None.is (c.in_ok-whole.ensures.filled is.low is.is is.within (omega (arith, can.room))) in
    absurd (omega (arith, none, can.some))
