-- The flag is kept by each of the terms so far.
use Rattle.std.proofs.Common.{◌≡◌, ℕ, Some, take, Contains}
use Rattle.domains.specs.Assignment.{clock_of}
use Rattle.fifo_nodes.specs.declared.term.Term.{Term}
use Rattle.fifo_nodes.specs.Terms.{AreTermsIn, term_of}
use Rattle.fifo_parts.specs.Comparisons.{GrowsBy, IsKeptBy}
use Rattle.fifo_parts.specs.Tellers.{IsShown}
use Rattle.fifo_parts.proofs.flags.Comparisons.add.Given as goal

abbrev pub invariant-loop-term : goal.invariant-loop-term
invariant-loop-term l = record {
  grows : GrowsBy (λ f. f ≡ l.flag) l.initial.self l.self;
  kept : IsShown l.shown.net.now l.shown.table.now → AreTermsIn l.shown.net.now.graph l.term-items → (c : ℕ)
      → clock_of l.shown.domains.now l.flag.bit ≡ Some c
      → (t : Term) → Contains (take l.term-index l.term-items) t
      → IsKeptBy l.shown.net.now l.shown.domains.now l.self.by_bit l.self.by_clock l.flag c (term_of l.shown.net.now.graph t);
}
