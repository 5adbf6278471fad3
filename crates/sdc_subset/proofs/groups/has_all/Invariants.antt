use Rattle.std.proofs.Common.{◌≡◌, map, drop}
use Rattle.sdc_subset.specs.Groups.{are_among}
use Rattle.sdc_subset.proofs.groups.has_all.Given as goal

abbrev pub invariant-loop-name : goal.invariant-loop-name
invariant-loop-name l = are_among l.set (map (λ n. n.now) l.names) ≡ are_among l.set (map (λ n. n.now) (drop l.name-index l.names))
