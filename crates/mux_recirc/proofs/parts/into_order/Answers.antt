-- By what a sort and a removal of repeated numbers keep.
use Rattle.std.proofs.Common.{sym, subst, ◌==◌}
use Rattle.std.specs.List.{Contains}
use Rattle.std.proofs.lemmas.List.Filters.{dedup_is}
use Rattle.cell_graph.proofs.Once.{same_items}
use Rattle.mux_recirc.proofs.Listed.{equal_numbers, same_number}
use Rattle.mux_recirc.proofs.parts.into_order.Goals as goal

pub returns : goal.returns
returns c = same_items equal_numbers same_number c.args.numbers.items c.sort_unstable.new.self.items c.dedup.new.self.items c.sort_unstable.ensures.permutation c.dedup.ensures.filtered
