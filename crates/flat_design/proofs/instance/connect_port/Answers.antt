use Rattle.std.proofs.Common.{sym, subst}
use Rattle.flat_names.specs.Designs.{ShowsDesign}
use Rattle.flat_targets.proofs.Aimed.{ok-then}
use Rattle.flat_design.specs.Visiting.{port_of}
use Rattle.flat_design.proofs.Wired.{port-signal, no-signal}
use Rattle.flat_design.proofs.instance.connect_port.Goals as goal

pub returns-in-Some : goal.returns-in-Some
returns-in-Some c = λ pins names e link h shown fit is.
    let at = port-signal names e link c.in-Some.sig (c.in-Some.ensures names (port_of link) h is.0) fit in
    ok-then c.add_connection.result _ _ (λ u k. subst (ShowsDesign pins _) at.1 k) (c.add_connection.ensures pins names e link h shown is.1 at.0)

pub returns-in-None : goal.returns-in-None
returns-in-None c = λ pins names e link h shown fit is. subst (ShowsDesign pins _) (sym (no-signal names e link (c.in-None.ensures names (port_of link) h is.0))) shown
