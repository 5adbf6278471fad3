-- Those kept so far, and those to come.
use Rattle.std.proofs.Common.{◌≡◌, ◌++◌, drop}
use Rattle.fifo_scheme.specs.Met.{kept_by}
use Rattle.fifo_scheme.proofs.judge.kept.Given as goal

abbrev pub invariant-loop-k : goal.invariant-loop-k
invariant-loop-k l = kept_by l.places l.answers ≡ l.kept.items ++ kept_by (drop l.k l.places) (drop l.k l.answers)
