use Rattle.std.proofs.Common.{◌≡◌, suc, ◌≤◌}
use Rattle.cell_graph.specs.Tree.{bit_at, number, all_below}
use Rattle.cofactor.proofs.masks.front_of.Given as goal

abbrev pub invariant-loop-at : goal.invariant-loop-at
invariant-loop-at l = record {
  whole : l.whole ≡ all_below (bit_at l.known) l.at;
  front : l.width ≤ 64 → l.front ≡ number (λ i. all_below (bit_at l.known) (suc i)) l.at;
}
