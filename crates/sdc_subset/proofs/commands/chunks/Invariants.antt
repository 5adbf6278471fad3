use Rattle.std.proofs.Common.{◌≡◌, ◌++◌, drop}
use Rattle.sdc_subset.specs.Commands.{filled}
use Rattle.sdc_subset.proofs.commands.chunks.Given as goal

abbrev pub invariant-loop-piece : goal.invariant-loop-piece
invariant-loop-piece l = filled l.piece-items ≡ l.chunks ++ filled (drop l.piece-index l.piece-items)
