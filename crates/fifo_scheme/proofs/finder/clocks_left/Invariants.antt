-- The clocks of the ways so far.
use Rattle.std.proofs.Common.{◌≡◌, ◌==◌, ℕ, take}
use Rattle.std.specs.HashSet as set
use Rattle.fifo_scheme.specs.Candidates.{is_left}
use Rattle.fifo_scheme.proofs.finder.clocks_left.Given as goal

abbrev pub invariant-loop-way : goal.invariant-loop-way
invariant-loop-way l = (clock : ℕ) → set.contains ◌==◌ l.clocks clock ≡ is_left (take l.way-index l.ways) clock
