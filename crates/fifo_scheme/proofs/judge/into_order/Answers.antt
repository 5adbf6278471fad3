-- By what a sort and a removal of repeated items keep.
use Rattle.std.proofs.Common.{◌≡◌, sym, subst, ℕ, List, true, eqb-true, arith, rules, nat_eq}
use Rattle.std.specs.Cmp.{nat_eq_equiv, nat_cmp_total}
use Rattle.std.specs.Cmp.Rules.{comparing}
use Rattle.std.specs.List.{dedup}
use Rattle.std.specs.List.Sorted.{IsStrictlySortedBy}
use Rattle.std.specs.Ordering.{eq_by_cmp, nat_cmp}
use Rattle.std.proofs.lemmas.List.Filters.{dedup_is}
use Rattle.std.proofs.lemmas.List.Kept.{IsStrictlySortedBy-dedup}
use Rattle.std.proofs.lemmas.Map.Keys.{below_from_sorted}
use Rattle.std.proofs.lemmas.Option.{get_or_from_slice_get, slice_get_within}
use Rattle.cell_graph.proofs.Once.{same_items}
use Rattle.fifo_scheme.specs.Met.{ArePlacesInOrder}
use Rattle.fifo_scheme.proofs.judge.into_order.Goals as goal

equal_is : (a b : ℕ) → nat_eq a b ≡ true → a ≡ b
equal_is a b h = eqb-true a b h

ties : (a b : ℕ) → nat_eq a b ≡ eq_by_cmp nat_cmp a b
ties a b = search (comparing, rules)

in_order : (ns : List ℕ) → IsStrictlySortedBy nat_cmp ns → ArePlacesInOrder ns
in_order ns h i j m n l e f =
    let below = below_from_sorted ns i j 0 h l (slice_get_within ns j n f) in
    let a = get_or_from_slice_get ns i m 0 e in
    let b = get_or_from_slice_get ns j n 0 f in
    omega arith

pub returns-clause-same : goal.returns-clause-same
returns-clause-same c = same_items nat_eq_equiv equal_is c.args.places.items c.sort_unstable.new.self.items c.dedup.new.self.items c.sort_unstable.ensures.permutation c.dedup.ensures.filtered

pub returns-clause-ordered : goal.returns-clause-ordered
returns-clause-ordered c =
    let is = dedup_is nat_eq c.sort_unstable.new.self.items c.dedup.new.self.items c.dedup.ensures.filtered in
    subst ArePlacesInOrder (sym is) (in_order (dedup nat_eq c.sort_unstable.new.self.items) (IsStrictlySortedBy-dedup nat_cmp_total ties c.sort_unstable.new.self.items c.sort_unstable.ensures.sorted))
