use Rattle.std.proofs.Common.{◌∙◌}
use Rattle.flat_design.proofs.TopPorts.{role-input, side-is, side-none}
use Rattle.flat_design.proofs.top_ports.is_input.Goals as goal

pub returns-in-Some : goal.returns-in-Some
returns-in-Some c = λ resets d h. let x = c.in-Some.entry.now in c.eq.ensures ∙ role-input x.role ∙ side-is resets c.args.design.now d h c.args.sig x c.in-Some.ensures

pub returns-in-None : goal.returns-in-None
returns-in-None c = λ resets d h. side-none resets c.args.design.now d h c.args.sig c.in-None.ensures
