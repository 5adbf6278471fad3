use Rattle.std.proofs.Common.{◌≡◌, ℕ, ◌-◌, ◌++◌, map}
use Rattle.cell_graph.specs.Tree.{bit_at}
use Rattle.driver_trees.specs.Collected.{run_of, runs_from, begun, IsBegun}
use Rattle.driver_trees.proofs.mask.runs.Given as goal

-- the runs so far, the one that has begun and those above are all
abbrev pub invariant-loop-at : goal.invariant-loop-at
invariant-loop-at l =
    IsBegun l.from l.at × ((n : ℕ) → n ≡ 64 → map run_of l.runs.items ++ begun l.from l.at (runs_from (bit_at l.bits) l.at (n - l.at)) ≡ runs_from (bit_at l.bits) 0 n)
