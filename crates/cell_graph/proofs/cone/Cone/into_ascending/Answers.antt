use Rattle.std.proofs.Common.{sym, subst, List}
use Rattle.std.specs.List.{Contains, dedup}
use Rattle.std.proofs.lemmas.List.Filters.{dedup_is}
use Rattle.std.proofs.lemmas.List.Kept.{IsStrictlySortedBy-dedup}
use Rattle.cell_graph.specs.declared.cell.CellId.{CellId}
use Rattle.cell_graph.specs.Below.{AreAscending}
use Rattle.cell_graph.specs.Met.{same_id}
use Rattle.cell_graph.proofs.Once.{same_items}
use Rattle.cell_graph.proofs.Cones.{total, equal_ids, same_id-is, ties, ascending}
use Rattle.cell_graph.proofs.cone.Cone.into_ascending.Goals as goal

pub returns-clause-there : goal.returns-clause-there
returns-clause-there c = λ x h. (same_items equal_ids same_id-is c.self.inside.cells.items c.sort_unstable.new.self.items c.dedup.new.self.items c.sort_unstable.ensures.permutation c.dedup.ensures.filtered x).1 (subst (λ (xs : List CellId). Contains xs x) (sym c.self.view_is) h)

pub returns-clause-only : goal.returns-clause-only
returns-clause-only c = λ x h. subst (λ (xs : List CellId). Contains xs x) c.self.view_is ((same_items equal_ids same_id-is c.self.inside.cells.items c.sort_unstable.new.self.items c.dedup.new.self.items c.sort_unstable.ensures.permutation c.dedup.ensures.filtered x).0 h)

pub returns-clause-ascending : goal.returns-clause-ascending
returns-clause-ascending c =
    let is = dedup_is same_id c.sort_unstable.new.self.items c.dedup.new.self.items c.dedup.ensures.filtered in
    subst AreAscending (sym is) (ascending (dedup same_id c.sort_unstable.new.self.items) (IsStrictlySortedBy-dedup total ties c.sort_unstable.new.self.items c.sort_unstable.ensures.sorted))
