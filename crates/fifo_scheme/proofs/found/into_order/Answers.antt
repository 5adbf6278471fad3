-- By what a sort and a removal of repeated items keep.
use Rattle.cell_graph.proofs.Once.{same_items}
use Rattle.cdc_model.proofs.Keys.{ordered_items}
use Rattle.fifo_scheme.proofs.Order.{equal_ends, same_end, ties, ends_order}
use Rattle.fifo_scheme.proofs.found.into_order.Goals as goal

pub returns-clause-same : goal.returns-clause-same
returns-clause-same c = same_items equal_ends same_end c.args.ended.items c.sort_unstable.new.self.items c.dedup.new.self.items c.sort_unstable.ensures.permutation c.dedup.ensures.filtered

pub returns-clause-ordered : goal.returns-clause-ordered
returns-clause-ordered c = ordered_items ends_order ties c.sort_unstable.new.self.items c.dedup.new.self.items c.sort_unstable.ensures.sorted c.dedup.ensures.filtered
