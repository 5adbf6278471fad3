use Rattle.std.proofs.Common.{◌≡◌, drop}
use Rattle.settling_sim.specs.Design.{take_cells}
use Rattle.settling_sim.proofs.design.take_cells.Given as goal

abbrev pub invariant-loop-reg : goal.invariant-loop-reg
invariant-loop-reg l = take_cells l.regs l.initial.cells ≡ take_cells (drop l.reg-index l.regs) l.cells
