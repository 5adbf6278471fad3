use Rattle.std.proofs.Common.{◌≡◌, max, map, drop}
use Rattle.verilog_ast.specs.Depth.{capped, greatest, port_depth}
use Rattle.verilog_ast.proofs.depths.deepest_port.Given as goal

abbrev pub invariant-loop-port : goal.invariant-loop-port
invariant-loop-port l = capped (greatest (map port_depth l.ports)) ≡ max l.most (capped (greatest (map port_depth (drop l.port-index l.ports))))
