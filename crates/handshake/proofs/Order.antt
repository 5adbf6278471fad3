-- The order that a sort gives pairs of synchronizers.
use Rattle.std.proofs.Common.{◌≡◌, ◌∙◌, refl, ap, rules, [], ◌∷◌, true, Equal}
use Rattle.std.specs.Cmp.{IsEquivalence}
use Rattle.std.specs.Cmp.Rules.{comparing}
use Rattle.std.specs.Ordering.{eq_by_cmp, is_eq, is_lt, nat_cmp}
use Rattle.cdc_model.specs.Verdict.{bit_key}
use Rattle.cdc_model.proofs.Keys.{Orders, bit_before, number_before, then_equal}
use Rattle.handshake.specs.contracts.candidates.PairOrd.TheImpl as order
use Rattle.handshake.specs.contracts.candidates.PairPartialEq.TheImpl as equality
use Rattle.handshake.specs.contracts.candidates.PairOrd.TheImpl.Laws.{total-law}
use Rattle.handshake.specs.contracts.candidates.PairEq.TheImpl.Laws.{laws-law}
use Rattle.handshake.specs.declared.candidates.Pair.{Pair}
use Rattle.handshake.specs.Pairs.{pair_key}

pub equal_pairs : IsEquivalence equality.ghosts.eq
equal_pairs = laws-law

pub equal_is : (a b : Pair) → equality.ghosts.eq a b ≡ true → a ≡ b
equal_is a b h = search rules

pub ties : (a b : Pair) → equality.ghosts.eq a b ≡ eq_by_cmp order.ghosts.cmp a b
ties a b = search (comparing, rules)

pub pairs_order : Orders order.ghosts.cmp pair_key
pairs_order = record {
  total = total-law;
  same = λ a b h. equal_is a b (ties a b ∙ ap is_eq h);
  before = λ a b.
      let of_back = number_before a.back b.back Equal [] [] refl ∙ ap is_lt (then_equal (nat_cmp a.back b.back)) in
      let of_acknowledge = bit_before a.acknowledge b.acknowledge (nat_cmp a.back b.back) (a.back ∷ []) (b.back ∷ []) of_back in
      let of_there = number_before a.there b.there _ (bit_key a.acknowledge (a.back ∷ [])) (bit_key b.acknowledge (b.back ∷ [])) of_acknowledge in
      bit_before a.request b.request _ (a.there ∷ bit_key a.acknowledge (a.back ∷ [])) (b.there ∷ bit_key b.acknowledge (b.back ∷ [])) of_there;
}
