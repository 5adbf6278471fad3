use Rattle.std.proofs.Common.{◌≡◌, ◌≤◌, ◌^◌, ◌-◌, ◌++◌, true}
use Rattle.campaign.specs.Numbers.{numbers_from}
use Rattle.campaign.proofs.edges.all_clocks.Given as goal

abbrev pub invariant-loop-place : goal.invariant-loop-place
invariant-loop-place l = l.clocks ≤ 2 ^ 32 → numbers_from (λ c. true) 0 l.clocks ≡ l.edges ++ numbers_from (λ c. true) l.place (l.clocks - l.place)
