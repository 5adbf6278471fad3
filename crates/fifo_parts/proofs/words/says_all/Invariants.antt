-- The bits so far are said.
use Rattle.std.proofs.Common.{◌≡◌, true}
use Rattle.cell_graph.specs.Tree.{all_below, bit_at}
use Rattle.fifo_parts.specs.Words.{is_said}
use Rattle.fifo_parts.proofs.words.says_all.Given as goal

abbrev pub invariant-loop-at : goal.invariant-loop-at
invariant-loop-at l = all_below (λ i. is_said l.net.graph l.side.reg.count l.side.width l.terms i (bit_at l.word i)) l.at ≡ true
