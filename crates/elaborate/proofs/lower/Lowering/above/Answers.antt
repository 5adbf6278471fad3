use Rattle.std.proofs.Common.{◌≡◌, ◌∙◌, ◌+◌, sym, subst, arith}
use Rattle.elaborate.specs.Lowered.{IsJoined}
use Rattle.elaborate.proofs.CellTrees.{above-made, glue-none}
use Rattle.elaborate.proofs.lower.Lowering.above.Goals as goal

pub returns-in_ok-both-in-Some-clause-above : goal.returns-in_ok-both-in-Some-clause-above
returns-in_ok-both-in-Some-clause-above c = λ t u m n high low some room.
    let below = subst (λ o. IsJoined c.args.self.now.graph o u n) c.in-Some.is low in
    above-made c.args.self.now.graph c.add.new.self.graph c.in_ok-both-in-Some.ensures.grown c.args.high c.in-Some.below c.in_ok-both-in-Some.both t u m n high below.0 below.1 some room
    (c.in_ok-both-in-Some.ensures.made (high.word.0, below.1.word.0, omega (arith, high.word.1, below.1.word.1, room)))

pub returns-in-None-clause-above : goal.returns-in-None-clause-above
returns-in-None-clause-above c = λ t u m n high low some room.
    let none : n ≡ 0 = subst (λ o. IsJoined c.args.self.now.graph o u n) c.in-None.is low in
    let size : m ≡ m + n = omega arith in
    record { word = (high.word.0, high.word.1 ∙ size); tree = high.tree ∙ sym (glue-none m n t u none) }
