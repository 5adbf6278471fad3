use Rattle.std.proofs.Common.{sym, arith}
use Rattle.cell_graph.specs.Cells.{cell_width}
use Rattle.cell_graph.proofs.FeedLists.{bit_at-is, bits_from-past}
use Rattle.cell_graph.proofs.graph.Graph.bit_number.Goals as goal

pub returns-then-n-from : goal.returns-then-n-from
returns-then-n-from c = let e = c.width.ensures in sym (bit_at-is c.args.cell c.args.n (cell_width c.args.self.now c.args.cell) (omega arith))

pub returns-else-n-from : goal.returns-else-n-from
returns-else-n-from c = let e = c.width.ensures in sym (bits_from-past c.args.cell c.args.n (cell_width c.args.self.now c.args.cell) 0 (omega arith))
