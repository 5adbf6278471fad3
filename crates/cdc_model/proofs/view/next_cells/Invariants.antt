-- All cells are those that are there and those of the bits to come.
use Rattle.std.proofs.Common.{◌≡◌, ◌++◌, drop}
use Rattle.cdc_model.specs.Nets.{AreAscending}
use Rattle.cdc_model.specs.Tables.{next_cells}
use Rattle.cdc_model.proofs.view.next_cells.Given as goal

abbrev pub invariant-loop-bit : goal.invariant-loop-bit
invariant-loop-bit l = AreAscending l.net.regs → next_cells l.net.regs l.bits ≡ l.cells.items ++ next_cells l.net.regs (drop l.bit-index l.bits)
