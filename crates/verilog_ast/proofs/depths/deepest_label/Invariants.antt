use Rattle.std.proofs.Common.{◌≡◌, max, map, drop}
use Rattle.verilog_ast.specs.Depth.{capped, greatest, label_depth}
use Rattle.verilog_ast.proofs.depths.deepest_label.Given as goal

abbrev pub invariant-loop-label : goal.invariant-loop-label
invariant-loop-label l = capped (greatest (map label_depth l.labels)) ≡ max l.most (capped (greatest (map label_depth (drop l.label-index l.labels))))
