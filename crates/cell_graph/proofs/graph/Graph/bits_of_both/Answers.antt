use Rattle.std.proofs.Common.{◌∙◌, ◌-◌, sym, arith}
use Rattle.cell_graph.specs.Cells.{cell_width}
use Rattle.cell_graph.specs.Feeds.{all_bits}
use Rattle.cell_graph.proofs.FeedLists.{both-left, both-right, length-bits_from}
use Rattle.cell_graph.proofs.graph.Graph.bits_of_both.Goals as goal

pub returns-then-n-width : goal.returns-then-n-width
returns-then-n-width c =
    let e = c.width.ensures in
    let l = length-bits_from c.args.a (cell_width c.args.self.now c.args.a) 0 in
    c.bit_number.ensures ∙ sym (both-left (all_bits c.args.self.now c.args.a) (all_bits c.args.self.now c.args.b) c.args.n (omega arith))

pub returns-else-n-width : goal.returns-else-n-width
returns-else-n-width c =
    let e = c.width.ensures in
    let l = length-bits_from c.args.a (cell_width c.args.self.now c.args.a) 0 in
    c.bit_number-else-n-width.ensures ∙ sym (both-right (all_bits c.args.self.now c.args.a) (all_bits c.args.self.now c.args.b) c.args.n (c.args.n - c.from-width.result) (omega arith))
