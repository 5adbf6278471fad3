use Rattle.std.proofs.Common.{◌≡◌, map, drop}
use Rattle.verilog_reading.specs.ExprTree.{tree_of, trees_of}
use Rattle.flat_unfolding.specs.Names as n
use Rattle.flat_unfolding.specs.Mentions.{all_names_in}
use Rattle.flat_unfolding.specs.Resets.{signals_among}
use Rattle.flat_names.specs.Looks.{Shows}
use Rattle.flat_process.specs.Resets.{signals_of, joined}
use Rattle.flat_process.proofs.reset.+add_names.Given as goal

abbrev pub invariant-add_names_of-loop-expr : goal.invariant-add_names_of-loop-expr
invariant-add_names_of-loop-expr l = (k : n.Look) → Shows l.look k
    → joined (signals_of l.signals) (signals_among k (all_names_in (trees_of (map tree_of (drop l.expr-index l.exprs))))) ≡ joined (signals_of l.initial.signals) (signals_among k (all_names_in (trees_of (map tree_of l.exprs))))
