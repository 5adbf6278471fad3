use Rattle.std.proofs.Common.{◌∙◌, ap, ◌++◌, List, ℕ}
use Rattle.sdc_subset.proofs.Joints.{joined-passes}
use Rattle.sdc_subset.proofs.commands.join_lines.Goals as goal

pub loop-at-preserved-then-passed-gt0 : goal.loop-at-preserved-then-passed-gt0
loop-at-preserved-then-passed-gt0 c =
    c.loop-at.invariant ∙ ap (λ (t : List ℕ). c.loop-at.bytes ++ t)
    (joined-passes c.loop-at.passed c.loop-at.at c.args.text.now c.if-passed-gt0.true c.loop-at-test.true)
