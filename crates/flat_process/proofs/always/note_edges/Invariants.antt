use Rattle.std.specs.Prelude.{◌≡◌, drop, flat_map}
use Rattle.flat_unfolding.specs.Names.{Look}
use Rattle.flat_unfolding.specs.Processes.{edge_rules}
use Rattle.flat_names.specs.Noting.{all_noted}
use Rattle.flat_names.specs.Looks.{Shows}
use Rattle.flat_process.proofs.always.note_edges.Given as goal

abbrev pub invariant-loop-edge : goal.invariant-loop-edge
invariant-loop-edge l = (k : Look) → Shows l.look k → all_noted l.faults (flat_map (edge_rules k l.first) (drop l.edge-index l.edges)) ≡ all_noted l.initial.faults (flat_map (edge_rules k l.first) l.edges)
