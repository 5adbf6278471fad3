use Rattle.std.proofs.Common.{sym, arith}
use Rattle.cell_graph.proofs.FeedLists.{pair-first, pair-second, pairs_from-past}
use Rattle.cell_graph.proofs.feeds.pairs.Goals as goal

pub returns-then-n-count : goal.returns-then-n-count
returns-then-n-count c = sym (pairs_from-past c.args.a c.args.b c.args.n c.args.count 0 (omega arith))

pub returns-then-n-eq0 : goal.returns-then-n-eq0
returns-then-n-eq0 c = sym (pair-first c.args.a c.args.b c.args.n c.args.count (omega arith) (omega arith))

pub returns-else-n-eq0 : goal.returns-else-n-eq0
returns-else-n-eq0 c = sym (pair-second c.args.a c.args.b c.args.n c.args.count (omega arith) (omega arith))
