use Rattle.std.proofs.Common.{◌∙◌, sym, ap}
use Rattle.driver_loops.specs.Leads.{id_in}
use Rattle.driver_loops.specs.Links.{extended}
use Rattle.driver_loops.proofs.Rows.{extended-nothing}
use Rattle.driver_loops.proofs.links.Links.add_operand.Goals as goal

pub returns-in-None : goal.returns-in-None
returns-in-None c = sym (ap (λ o. extended c.args.self.now (id_in o)) c.in-None.is ∙ extended-nothing c.args.self.now)
