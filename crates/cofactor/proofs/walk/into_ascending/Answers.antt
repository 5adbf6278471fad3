use Rattle.std.proofs.Common.{sym, subst}
use Rattle.std.specs.List.{Contains, dedup}
use Rattle.std.proofs.lemmas.List.Filters.{dedup_is}
use Rattle.std.proofs.lemmas.List.Kept.{IsStrictlySortedBy-dedup}
use Rattle.cdc_base.specs.contracts.bit.BitPartialEq.TheImpl as equality
use Rattle.cell_graph.proofs.Once.{same_items}
use Rattle.cofactor.specs.Order.{AreAscending}
use Rattle.cofactor.proofs.Ascending.{total, equal_bits, equal-is, ties, ascending}
use Rattle.cofactor.proofs.walk.into_ascending.Goals as goal

pub returns-clause-there : goal.returns-clause-there
returns-clause-there c = λ x. (same_items equal_bits equal-is c.args.bits.items c.sort_unstable.new.self.items c.dedup.new.self.items c.sort_unstable.ensures.permutation c.dedup.ensures.filtered x).1

pub returns-clause-only : goal.returns-clause-only
returns-clause-only c = λ x. (same_items equal_bits equal-is c.args.bits.items c.sort_unstable.new.self.items c.dedup.new.self.items c.sort_unstable.ensures.permutation c.dedup.ensures.filtered x).0

pub returns-clause-ascending : goal.returns-clause-ascending
returns-clause-ascending c =
    let is = dedup_is equality.ghosts.eq c.sort_unstable.new.self.items c.dedup.new.self.items c.dedup.ensures.filtered in
    subst AreAscending (sym is) (ascending (dedup equality.ghosts.eq c.sort_unstable.new.self.items) (IsStrictlySortedBy-dedup total ties c.sort_unstable.new.self.items c.sort_unstable.ensures.sorted))
