use Rattle.std.proofs.Common.{arith}
use Rattle.reset_nets.specs.Finding.{known_in, levels_at}
use Rattle.reset_nets.proofs.Reading.{value_is}
use Rattle.reset_nets.proofs.levels.value_at.Goals as goal

pub returns : goal.returns
returns c = λ sized.
    value_is (levels_at c.args.active (known_in c.args.levels.now)) c.in_ok-fixed.fixed c.args.value.now c.assigned_value.result sized c.in_ok-fixed.ensures.levels c.in_ok-fixed.ensures.kept
    (λ k. (c.assigned_value.ensures k (omega arith)).0)
