use Rattle.std.proofs.Common.{◌≡◌, map, take}
use Rattle.sdc_subset.specs.Commands.{head}
use Rattle.sdc_subset.proofs.groups.members_of_one.Given as goal

abbrev pub invariant-loop-clock : goal.invariant-loop-clock
invariant-loop-clock l = record {
  named : l.group ≡ head (map (λ n. n.now) l.clocks);
  so_far : l.members ≡ map (λ n. record { clock = n; group = l.group }) (map (λ n. n.now) (take l.clock-index l.clocks));
}
