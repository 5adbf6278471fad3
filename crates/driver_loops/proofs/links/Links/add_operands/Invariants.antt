use Rattle.std.proofs.Common.{◌≡◌, drop}
use Rattle.driver_loops.specs.Leads.{ids_in}
use Rattle.driver_loops.specs.Links.{extended}
use Rattle.driver_loops.proofs.links.Links.add_operands.Given as goal

abbrev pub invariant-loop-operand : goal.invariant-loop-operand
invariant-loop-operand l = extended l.self (ids_in (drop l.operand-index l.operand-items)) ≡ extended l.initial.self (ids_in l.operand-items)
