-- The pairs so far were added.
use Rattle.std.proofs.Common.{take}
use Rattle.fifo_scheme.specs.declared.found.FifoPair.{FifoPair}
use Rattle.fifo_scheme.specs.Candidates.{AreBy, AreLookedUp, Grows, OfOne}
use Rattle.fifo_scheme.proofs.finder.candidates_of.Given as goal

abbrev pub invariant-loop-pair : goal.invariant-loop-pair
invariant-loop-pair l = AreLookedUp l.index → Grows l.index.sides.items (OfOne (λ (p : FifoPair) k. AreBy l.index.sides.items p.wb p.rb k) (take l.pair-index l.pairs)) l.initial.candidates l.candidates
