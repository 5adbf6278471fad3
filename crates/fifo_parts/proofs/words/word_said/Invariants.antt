-- The bits so far are said, and make the word.
use Rattle.std.proofs.Common.{◌≡◌, ◌≤◌, true}
use Rattle.cell_graph.specs.Tree.{all_below, number}
use Rattle.fifo_parts.specs.Words.{is_told, word_bit}
use Rattle.fifo_parts.proofs.words.word_said.Given as goal

abbrev pub invariant-loop-at : goal.invariant-loop-at
invariant-loop-at l = l.side.width ≤ 64 → (all_below (is_told l.net.graph l.side.reg.count l.side.width l.terms) l.at ≡ true)
    × (l.word ≡ number (word_bit l.net.graph l.side.reg.count l.side.width l.terms l.side.under) l.at)
