-- Those are there that stand for FIFOs so far.
use Rattle.std.proofs.Common.{◌≡◌, ◌↔◌, true, take}
use Rattle.std.specs.HashSet as set
use Rattle.fifo_scheme.specs.contracts.found.FifoPairPartialEq.TheImpl as equality
use Rattle.fifo_scheme.specs.declared.found.FifoPair.{FifoPair}
use Rattle.fifo_scheme.specs.Candidates.{IsThere}
use Rattle.fifo_scheme.proofs.finder.stood_for.Given as goal

abbrev pub invariant-loop-fifo : goal.invariant-loop-fifo
invariant-loop-fifo l = (p : FifoPair) → (set.contains equality.ghosts.eq l.there p ≡ true) ↔ IsThere (take l.fifo-index l.fifos) p
