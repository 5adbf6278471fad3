use Rattle.std.proofs.Common.{◌≡◌, max, map, drop}
use Rattle.verilog_ast.specs.Depth.{capped, greatest, param_depth}
use Rattle.verilog_ast.proofs.depths.deepest_param.Given as goal

abbrev pub invariant-loop-param : goal.invariant-loop-param
invariant-loop-param l = capped (greatest (map param_depth l.params)) ≡ max l.most (capped (greatest (map param_depth (drop l.param-index l.params))))
