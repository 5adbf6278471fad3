-- The findings of all lots are those so far, then those of the lots that are left.
use Rattle.std.proofs.Common.{◌≡◌, ◌++◌}
use Rattle.std.specs.List.{flat_map}
use Rattle.std.specs.Slice.Iter.{chunk_by_rest}
use Rattle.obligations.specs.Lots.{lots_of}
use Rattle.obligations.specs.Arrivals.{of_one_group, v6_of}
use Rattle.obligations.specs.contracts.arrivals.FamilyPartialEq.TheImpl as families
use Rattle.obligations.proofs.arrivals.add_lots.Given as goal

abbrev pub invariant-loop-lot : goal.invariant-loop-lot
invariant-loop-lot l = l.findings ++ flat_map (v6_of families.ghosts.eq l.to) (lots_of of_one_group (chunk_by_rest l.lot-iterator))
    ≡ l.initial.findings ++ flat_map (v6_of families.ghosts.eq l.to) (lots_of of_one_group (chunk_by_rest l.initial.lot-iterator))
