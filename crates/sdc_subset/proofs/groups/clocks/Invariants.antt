use Rattle.std.proofs.Common.{◌≡◌, map, take}
use Rattle.sdc_subset.proofs.groups.clocks.Given as goal

abbrev pub invariant-loop-member : goal.invariant-loop-member
invariant-loop-member l = map (λ n. n.now) l.names.items ≡ map (λ m. m.clock) (take l.member-index l.members)
