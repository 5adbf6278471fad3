-- The counts of the terms so far.
use Rattle.std.proofs.Common.{ℕ, Contains, take}
use Rattle.std.specs.Prelude.{◌↔◌}
use Rattle.fifo_nodes.specs.declared.term.Term.{Term}
use Rattle.fifo_parts.specs.Words.{SaysBit}
use Rattle.fifo_parts.proofs.words.counts_said.Given as goal

abbrev pub invariant-loop-term : goal.invariant-loop-term
invariant-loop-term l = (sig : ℕ) → Contains l.counts sig ↔ ((t : Term) × Contains (take l.term-index l.terms) t × SaysBit l.net sig t)
