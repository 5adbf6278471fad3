use Rattle.std.proofs.Common.{◌≡◌, max, map, drop}
use Rattle.verilog_ast.specs.Depth.{capped, greatest, stmt_depth, case_item_depth}
use Rattle.verilog_ast.proofs.depths.+depth_of_stmt.Given as goal

abbrev pub invariant-deepest_stmt-loop-part : goal.invariant-deepest_stmt-loop-part
invariant-deepest_stmt-loop-part l = capped (greatest (map stmt_depth l.parts)) ≡ max l.most (capped (greatest (map stmt_depth (drop l.part-index l.parts))))

abbrev pub invariant-deepest_case_item-loop-item : goal.invariant-deepest_case_item-loop-item
invariant-deepest_case_item-loop-item l = capped (greatest (map case_item_depth l.items)) ≡ max l.most (capped (greatest (map case_item_depth (drop l.item-index l.items))))
