use Rattle.std.proofs.Common.{◌≡◌, ◌++◌, map, take}
use Rattle.sdc_subset.proofs.groups.add_members.Given as goal

abbrev pub invariant-loop-clock : goal.invariant-loop-clock
invariant-loop-clock l = l.members ≡ l.initial.members ++ map (λ n. record { clock = n; group = l.group }) (take l.clock-index l.clocks)
