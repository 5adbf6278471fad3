use Rattle.std.proofs.Common.{◌≡◌, max, map, drop}
use Rattle.verilog_ast.specs.Depth.{capped, greatest, module_depth}
use Rattle.verilog_ast.proofs.depths.depth.Given as goal

abbrev pub invariant-loop-module : goal.invariant-loop-module
invariant-loop-module l = capped (greatest (map module_depth l.module-items)) ≡ max l.most (capped (greatest (map module_depth (drop l.module-index l.module-items))))
