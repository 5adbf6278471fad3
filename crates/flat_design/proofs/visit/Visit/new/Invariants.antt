use Rattle.std.proofs.Common.{◌≡◌, false, ◌++◌, map, drop}
use Rattle.verilog_ast.specs.declared.Module.{Module}
use Rattle.flat_design.proofs.visit.Visit.new.Given as goal

abbrev pub invariant-loop-module : goal.invariant-loop-module
invariant-loop-module l = map (λ (m : Module). false) l._module-items ≡ l.is_open.items ++ map (λ (m : Module). false) (drop l._module-index l._module-items)
