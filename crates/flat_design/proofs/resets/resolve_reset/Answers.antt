use Rattle.flat_design.proofs.DeclaredResets.{declared-shown}
use Rattle.flat_design.proofs.resets.resolve_reset.Goals as goal

pub returns : goal.returns
returns c = λ resets d shows h.
    declared-shown c.args.pins.now resets shows c.args.design.now d h c.args.sig c.declared_reset-reset.result c.declared_reset-reset.ensures c.set_reset.new.entries c.set_reset.ensures
