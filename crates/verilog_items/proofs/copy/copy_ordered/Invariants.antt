use Rattle.std.proofs.Common.{◌≡◌, ◌++◌, map, drop}
use Rattle.verilog_reading.specs.ExprTree.{tree_of}
use Rattle.verilog_reading.specs.SourceTree.{maybe}
use Rattle.verilog_items.proofs.copy.copy_ordered.Given as goal

abbrev pub invariant-loop-value : goal.invariant-loop-value
invariant-loop-value l = map (maybe tree_of) l.values ≡ map (maybe tree_of) l.copies ++ map (maybe tree_of) (drop l.value-index l.values)
