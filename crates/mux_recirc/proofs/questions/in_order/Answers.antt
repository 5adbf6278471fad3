-- By what a sort and a removal of repeated bits keep.
use Rattle.std.proofs.Common.{sym, subst}
use Rattle.std.specs.List.{Contains}
use Rattle.std.specs.List.Sorted.{IsSorted}
use Rattle.std.proofs.lemmas.List.Filters.{dedup_is}
use Rattle.cdc_base.specs.contracts.bit.BitOrd.TheImpl as bit_order
use Rattle.cell_graph.specs.Reading.{bit_eq}
use Rattle.cell_graph.proofs.Once.{same_items}
use Rattle.cell_graph.proofs.Bits.{bit_eq-true}
use Rattle.mux_recirc.proofs.Orders.{equal_bits, dedup_sorted}
use Rattle.mux_recirc.proofs.questions.in_order.Goals as goal

pub returns-clause-same : goal.returns-clause-same
returns-clause-same c = same_items equal_bits bit_eq-true c.args.bits.items c.sort_unstable.new.self.items c.dedup.new.self.items c.sort_unstable.ensures.permutation c.dedup.ensures.filtered

pub returns-clause-sorted : goal.returns-clause-sorted
returns-clause-sorted c =
    let is = dedup_is bit_eq c.sort_unstable.new.self.items c.dedup.new.self.items c.dedup.ensures.filtered in
    subst (IsSorted bit_order.ghosts.cmp) (sym is) (dedup_sorted c.sort_unstable.new.self.items c.sort_unstable.ensures.sorted)
