use Rattle.std.proofs.Common.{◌≡◌, max, map, drop}
use Rattle.verilog_ast.specs.Depth.{capped, greatest, conn_depth}
use Rattle.verilog_ast.proofs.depths.deepest_conn.Given as goal

abbrev pub invariant-loop-entry : goal.invariant-loop-entry
invariant-loop-entry l = capped (greatest (map conn_depth l.entries)) ≡ max l.most (capped (greatest (map conn_depth (drop l.entry-index l.entries))))
