-- Those at the places so far are added.
use Rattle.std.proofs.Common.{◌⊎◌, ◌↔◌, ℕ, Contains, take}
use Rattle.fifo_scheme.specs.Met.{IsOwnAt}
use Rattle.fifo_parts.specs.Tellers.{IsShown}
use Rattle.fifo_scheme.proofs.judge.add_candidates.Given as goal

abbrev pub invariant-loop-place : goal.invariant-loop-place
invariant-loop-place l = IsShown l.shown.net.now l.shown.table.now → (n : ℕ)
    → Contains l.places.items n ↔ (Contains l.initial.places.items n ⊎ (Contains (take l.place-index l.place-items) n × IsOwnAt l.shown.net.now l.shown.domains.now l.index l.clock n))
