use Rattle.reset_nets.proofs.Shown.{more_numbers}
use Rattle.reset_nets.proofs.nets.numbers.Goals as goal

pub loop-place-preserved : goal.loop-place-preserved
loop-place-preserved c = more_numbers c.loop-place.all.items c.loop-place.place c.in_ok-numbered.field-0 c.push.new.items.items c.in_ok-numbered.ensures c.in_ok-push.ensures.pushed c.loop-place.invariant
