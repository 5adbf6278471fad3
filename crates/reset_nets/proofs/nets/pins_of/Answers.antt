use Rattle.std.proofs.Common.{◌∙◌, ap}
use Rattle.reset_nets.specs.Finding.{known_in}
use Rattle.reset_nets.proofs.Shown.{pins_step}
use Rattle.reset_nets.proofs.nets.pins_of.Goals as goal

pub loop-place-preserved : goal.loop-place-preserved
loop-place-preserved c = λ pins d shows count.
    pins_step pins c.args.wires.now d shows c.args.levels.now count c.loop-place.place c.signal-item.result c.loop-place-test.true c.signal-item.is c.level_at-declared.result c.level_at-level.result
    (c.level_at-declared.ensures ∙ ap (λ ls. known_in ls c.loop-place.place) c.as_slice.ensures.value) c.level_at-level.ensures
    c.loop-place.pins.items c.add_pin.new.pins.items c.in_ok-add_pin.ensures _ (c.loop-place.invariant pins d shows count)
