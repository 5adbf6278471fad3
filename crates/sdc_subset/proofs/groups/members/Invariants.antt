use Rattle.std.proofs.Common.{◌≡◌, ◌++◌, drop}
use Rattle.sdc_subset.specs.Groups.{members}
use Rattle.sdc_subset.proofs.groups.members.Given as goal

abbrev pub invariant-loop-list : goal.invariant-loop-list
invariant-loop-list l = members l.lists ≡ l.members ++ members (drop l.list-index l.lists)
