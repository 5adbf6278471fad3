use Rattle.reset_nets.specs.Shown.{level_in_signal}
use Rattle.reset_nets.proofs.Inactive.{levels_step}
use Rattle.reset_nets.proofs.nets.declared_levels.Goals as goal

pub loop-signal-preserved : goal.loop-signal-preserved
loop-signal-preserved c = λ resets shows.
    levels_step (level_in_signal resets) c.args.signals.now c.loop-signal.signal-index c.signal-item.result c.loop-signal-test.true c.signal-item.is c.loop-signal.levels.items c.push.new.items.items _
    c.declared_level.result (c.declared_level.ensures resets shows) c.in_ok-push.ensures.pushed (c.loop-signal.invariant resets shows)
