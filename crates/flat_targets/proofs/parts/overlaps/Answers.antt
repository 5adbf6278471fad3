use Rattle.std.proofs.Common.{◌^◌, ◌<◌, arith}
use Rattle.flat_form.specs.View.{target_of}
use Rattle.flat_targets.specs.Parts.{width_among}
use Rattle.flat_targets.proofs.Shared.{shares-word}
use Rattle.flat_targets.proofs.parts.overlaps.Goals as goal

pub returns : goal.returns
returns c = λ n others w part holds.
    let small : c.of.result < 2 ^ 64 = omega arith in
    let r = c.may_assign-sig.result in
    shares-word (width_among c.args.entries.now) n (target_of c.args.part.now) w others c.args.assigned.now holds r.0 r.1 c.of.result small c.of.ensures.bits (c.may_assign-sig.ensures part)
