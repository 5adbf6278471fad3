-- The counts so far were added.
use Rattle.std.proofs.Common.{take}
use Rattle.fifo_scheme.specs.Candidates.{AreBy, AreLookedUp, Grows, OfOne}
use Rattle.fifo_scheme.proofs.finder.add_counts.Given as goal

abbrev pub invariant-loop-wb : goal.invariant-loop-wb
invariant-loop-wb l = AreLookedUp l.index → Grows l.index.sides.items (OfOne (λ wb k. AreBy l.index.sides.items wb l.rb k) (take l.wb-index l.counts)) l.initial.candidates l.candidates
