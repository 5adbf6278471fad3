use Rattle.std.proofs.Common.{◌≡◌, max, map, drop}
use Rattle.verilog_ast.specs.Depth.{capped, greatest, target_depth}
use Rattle.verilog_ast.proofs.depths.+depth_of_target.Given as goal

abbrev pub invariant-deepest_target-loop-part : goal.invariant-deepest_target-loop-part
invariant-deepest_target-loop-part l = capped (greatest (map target_depth l.parts)) ≡ max l.most (capped (greatest (map target_depth (drop l.part-index l.parts))))
