use Rattle.std.proofs.Common.{◌≡◌, take}
use Rattle.clock_constraints.specs.Refusals.{Text}
use Rattle.domains.specs.Tables.{found_in, named, pairs_of}
use Rattle.domains.proofs.table.by_name.Given as goal

abbrev pub invariant-loop-name : goal.invariant-loop-name
invariant-loop-name g l = (q : Text) → found_in l.table q ≡ named (pairs_of (take l.name-index l.pairs)) q
