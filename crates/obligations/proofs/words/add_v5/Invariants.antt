-- The findings of all lots are those so far, then those of the lots that are left.
use Rattle.std.proofs.Common.{◌≡◌, ◌++◌}
use Rattle.std.specs.List.{flat_map}
use Rattle.std.specs.Slice.Iter.{chunk_by_rest}
use Rattle.obligations.specs.Lots.{lots_of}
use Rattle.obligations.specs.Words.{of_one_word, v5_of}
use Rattle.obligations.proofs.words.add_v5.Given as goal

abbrev pub invariant-loop-lot : goal.invariant-loop-lot
invariant-loop-lot l = l.findings ++ flat_map v5_of (lots_of of_one_word (chunk_by_rest l.lot-iterator)) ≡ l.initial.findings ++ flat_map v5_of (lots_of of_one_word (chunk_by_rest l.initial.lot-iterator))
