use Rattle.std.proofs.Common.{◌≡◌, ◌++◌, drop}
use Rattle.reset_nets.proofs.nets.copied.Given as goal

abbrev pub invariant-loop-level : goal.invariant-loop-level
invariant-loop-level l = l.copy.items ++ drop l.level-index l.levels ≡ l.levels
