use Rattle.std.specs.Prelude.{◌≡◌, drop}
use Rattle.std.specs.List.{list_any}
use Rattle.flat_unfolding.specs.Names.{Look}
use Rattle.flat_unfolding.specs.Processes.{is_wide}
use Rattle.flat_names.specs.Looks.{Shows, IsFit}
use Rattle.flat_process.proofs.always.has_wide_edge.Given as goal

abbrev pub invariant-loop-edge : goal.invariant-loop-edge
invariant-loop-edge l = (k : Look) → Shows l.look k → IsFit k → list_any (is_wide k) (drop l.edge-index l.edges) ≡ list_any (is_wide k) l.edges
