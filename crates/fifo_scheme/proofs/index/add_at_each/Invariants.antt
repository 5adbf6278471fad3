-- The place was added at the keys so far.
use Rattle.std.proofs.Common.{Contains, take}
use Rattle.fifo_scheme.specs.Indexed.{AddsAt}
use Rattle.fifo_scheme.proofs.index.add_at_each.Given as goal

abbrev pub invariant-loop-key : goal.invariant-loop-key
invariant-loop-key l = AddsAt (Contains (take l.key-index l.keys)) l.place l.initial.places l.places
