-- Each set has what its list has.
use Rattle.std.proofs.Common.{◌∙◌, ap}
use Rattle.std.specs.List.{list_any}
use Rattle.fifo_ways.specs.Marked.{same_bit, same_node, same_guard}
use Rattle.fifo_ways.proofs.RowBits.{listed}
use Rattle.fifo_ways.proofs.Sames.{equal_bits, equal_nodes, equal_guards, same_bit-is, same_node-is, same_guard-is}
use Rattle.fifo_ways.proofs.marked.Marked.of.Goals as goal

pub returns : goal.returns
returns c = record {
  words = λ b. listed equal_bits same_bit-is b c.args.sought.now.words _ (c.in_ok-words.ensures b ∙ ap (list_any (same_bit b)) c.as_slice.ensures);
  reads =
      λ n. listed equal_nodes same_node-is n c.args.sought.now.reads _ (c.in_ok-reads.ensures n ∙ ap (list_any (same_node n)) c.as_slice-2.ensures);
  tests =
      λ p. listed equal_guards same_guard-is p c.args.sought.now.tests _
      (c.in_ok-tests.ensures p ∙ ap (list_any (same_guard p)) c.as_slice-3.ensures);
}
