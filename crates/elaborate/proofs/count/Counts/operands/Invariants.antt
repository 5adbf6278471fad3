use Rattle.std.proofs.Common.{◌≡◌, ◌+◌, ◌≤◌, drop}
use Rattle.driver_loops.specs.Leads.{ids_in}
use Rattle.elaborate.specs.Counts.{added, capped}
use Rattle.elaborate.proofs.count.Counts.operands.Given as goal

abbrev pub invariant-loop-operand : goal.invariant-loop-operand
invariant-loop-operand l = record {
  small : l.cells ≤ 4294967295;
  summed : capped (l.cells + added l.self.cells.items (ids_in (drop l.operand-index l.operands))) ≡ capped (added l.self.cells.items (ids_in l.operands));
}
