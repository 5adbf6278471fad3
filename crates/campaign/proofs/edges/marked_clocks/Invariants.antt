use Rattle.std.proofs.Common.{◌≡◌, ◌≤◌, ◌^◌, ◌%◌, ◌-◌, ◌++◌}
use Rattle.cell_graph.specs.Tree.{bit_at}
use Rattle.campaign.specs.Numbers.{numbers_from}
use Rattle.campaign.proofs.edges.marked_clocks.Given as goal

abbrev pub invariant-loop-place : goal.invariant-loop-place
invariant-loop-place l = l.clocks ≤ 2 ^ 32 → numbers_from (λ c. bit_at l.word (c % 64)) 0 l.clocks ≡ l.edges ++ numbers_from (λ c. bit_at l.word (c % 64)) l.place (l.clocks - l.place)
