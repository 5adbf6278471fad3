use Rattle.std.proofs.Common.{◌≡◌, max, map, drop}
use Rattle.verilog_ast.specs.Depth.{capped, greatest, expr_depth, optional}
use Rattle.verilog_ast.proofs.depths.deepest_optional.Given as goal

abbrev pub invariant-loop-entry : goal.invariant-loop-entry
invariant-loop-entry l = capped (greatest (map (optional expr_depth) l.entries)) ≡ max l.most (capped (greatest (map (optional expr_depth) (drop l.entry-index l.entries))))
