-- What the register bits so far take, and the conditions of the last one.
use Rattle.std.proofs.Common.{◌≡◌, ◌++◌, drop, map, Contains}
use Rattle.fifo_nodes.specs.Takes.{HaveTerms}
use Rattle.fifo_parts.specs.declared.words.Taking.{Taking}
use Rattle.fifo_parts.specs.Tellers.{IsShown}
use Rattle.fifo_parts.specs.Words.{IsTaking}
use Rattle.fifo_parts.proofs.words.takings.Given as goal

abbrev pub invariant-loop-bit : goal.invariant-loop-bit
invariant-loop-bit l = IsShown l.net l.table → (map (λ (t : Taking). t.bit) l.takings ++ drop l.bit-index l.bit-items ≡ l.bit-items)
    × ((t : Taking) → Contains l.takings t → IsTaking l.net t) × HaveTerms l.net.graph l.known
