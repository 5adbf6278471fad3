use Rattle.std.proofs.Common.{◌≡◌, ◌≤◌, ◌^◌, ◌-◌, ◌++◌, length}
use Rattle.settling_sim.specs.State.{is_clocked_input}
use Rattle.campaign.specs.Numbers.{numbers_from}
use Rattle.campaign.proofs.inputs.clocked_inputs.Given as goal

abbrev pub invariant-loop-place : goal.invariant-loop-place
invariant-loop-place l = length l.net.graph.signals ≤ 2 ^ 32 → numbers_from (is_clocked_input l.net l.domains) 0 l.count ≡ l.inputs ++ numbers_from (is_clocked_input l.net l.domains) l.place (l.count - l.place)
