use Rattle.std.proofs.Common.{◌≡◌, max, map, drop}
use Rattle.verilog_ast.specs.Depth.{capped, greatest, item_depth}
use Rattle.verilog_ast.proofs.depths.deepest_item.Given as goal

abbrev pub invariant-loop-item : goal.invariant-loop-item
invariant-loop-item l = capped (greatest (map item_depth l.items)) ≡ max l.most (capped (greatest (map item_depth (drop l.item-index l.items))))
