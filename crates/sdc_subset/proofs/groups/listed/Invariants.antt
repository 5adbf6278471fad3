use Rattle.std.proofs.Common.{◌≡◌, map, ◌++◌, drop}
use Rattle.sdc_subset.specs.Groups.{listed}
use Rattle.sdc_subset.proofs.groups.listed.Given as goal

abbrev pub invariant-loop-list : goal.invariant-loop-list
invariant-loop-list l = listed l.lists ≡ map (λ n. n.now) l.names.items ++ listed (drop l.list-index l.lists)
