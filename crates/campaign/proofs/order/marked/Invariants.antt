use Rattle.std.proofs.Common.{◌≡◌, ◌≤◌, ◌^◌, ◌-◌, ◌++◌, Some}
use Rattle.settling_sim.specs.Edges.{is_marked}
use Rattle.campaign.specs.Numbers.{numbers_from}
use Rattle.campaign.proofs.order.marked.Given as goal

abbrev pub invariant-loop-place : goal.invariant-loop-place
invariant-loop-place l = l.clocks ≤ 2 ^ 32 → numbers_from (λ c. is_marked l.ticking (Some c)) 0 l.clocks ≡ l.listed ++ numbers_from (λ c. is_marked l.ticking (Some c)) l.place (l.clocks - l.place)
