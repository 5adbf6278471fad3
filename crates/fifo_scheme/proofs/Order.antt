-- The order of crossings by their ends.
use Rattle.std.proofs.Common.{◌≡◌, rules, ℕ, zero, suc, List, [], ◌∷◌, Some, map, refl, slice_get, true, subst}
use Rattle.std.specs.Cmp.{IsEquivalence}
use Rattle.std.specs.Cmp.Rules.{comparing}
use Rattle.std.specs.Ordering.{eq_by_cmp}
use Rattle.cdc_base.specs.contracts.bit.BitOrd.TheImpl as bits
use Rattle.cdc_model.specs.declared.scheme.Crossing.{Crossing}
use Rattle.cdc_model.specs.Ordered.{is_before, IsAscending}
use Rattle.cdc_model.specs.Verdict.{bit_key, crossing_key}
use Rattle.cdc_model.proofs.Keys.{Orders, bit_before, bits_order}
use Rattle.fifo_scheme.specs.contracts.found.EndedOrd.TheImpl as order
use Rattle.fifo_scheme.specs.contracts.found.EndedOrd.TheImpl.Laws.{total-law}
use Rattle.fifo_scheme.specs.contracts.found.EndedPartialEq.TheImpl as equality
use Rattle.fifo_scheme.specs.contracts.found.EndedEq.TheImpl.Laws.{laws-law}
use Rattle.fifo_scheme.specs.declared.found.Ended.{Ended}
use Rattle.fifo_scheme.specs.Ended.{crossing_of, ended_key}

pub equal_ends : IsEquivalence equality.ghosts.eq
equal_ends = laws-law

pub same_end : (a b : Ended) → equality.ghosts.eq a b ≡ true → a ≡ b
same_end a b h = search rules

pub ties : (a b : Ended) → equality.ghosts.eq a b ≡ eq_by_cmp order.ghosts.cmp a b
ties a b = search (comparing, rules)

pub ends_order : Orders order.ghosts.cmp ended_key
ends_order = record {
  total = total-law;
  same = λ a b h. search (comparing, rules);
  before = λ a b. bit_before a.to b.to (bits.ghosts.cmp a.from b.from) (bit_key a.from []) (bit_key b.from []) (bits_order.before a.from b.from);
}

at_map : (ends : List Ended) (i : ℕ) (c : Crossing) → slice_get (map crossing_of ends) i ≡ Some c → (e : Ended) × (slice_get ends i ≡ Some e)
    × (crossing_of e ≡ c)
at_map [] i c h = absurd (cc)
at_map (e ∷ es) zero c h = let s : crossing_of e ≡ c = cc in (e, refl, s)
at_map (e ∷ es) (suc i) c h = at_map es i c h

pub listed_ascends : (ends : List Ended) → IsAscending ended_key ends → IsAscending crossing_key (map crossing_of ends)
listed_ascends ends h i j c d lt at there =
    let a = at_map ends i c at in
    let b = at_map ends j d there in
    subst (λ (x : Crossing). is_before (crossing_key x) (crossing_key d) ≡ true) a.2
    (subst (λ (y : Crossing). is_before (ended_key a.0) (crossing_key y) ≡ true) b.2 (h i j a.0 b.0 lt a.1 b.1))
