-- The order of flags.
use Rattle.std.proofs.Common.{◌≡◌, refl, rules, ◌∷◌, [], Bool, true, false, cond}
use Rattle.std.specs.Cmp.{IsEquivalence}
use Rattle.std.specs.Cmp.Rules.{comparing}
use Rattle.std.specs.Ordering.{eq_by_cmp, is_lt, bool_cmp}
use Rattle.cdc_model.specs.Ordered.{is_before}
use Rattle.cdc_model.proofs.Keys.{Orders, bit_before}
use Rattle.fifo_parts.specs.contracts.flags.FlagOrd.TheImpl as order
use Rattle.fifo_parts.specs.contracts.flags.FlagOrd.TheImpl.Laws.{total-law}
use Rattle.fifo_parts.specs.contracts.flags.FlagPartialEq.TheImpl as equality
use Rattle.fifo_parts.specs.contracts.flags.FlagEq.TheImpl.Laws.{laws-law}
use Rattle.fifo_parts.specs.declared.flags.Flag.{Flag}
use Rattle.fifo_parts.specs.Tellers.{flag_entry_key}

value_before : (u v : Bool) → is_before (cond u 1 0 ∷ []) (cond v 1 0 ∷ []) ≡ is_lt (bool_cmp u v)
value_before false false = refl
value_before false true = refl
value_before true false = refl
value_before true true = refl

pub equal_flags : IsEquivalence equality.ghosts.eq
equal_flags = laws-law

pub same_flag : (a b : Flag) → equality.ghosts.eq a b ≡ true → a ≡ b
same_flag a b h = search rules

pub ties : (a b : Flag) → equality.ghosts.eq a b ≡ eq_by_cmp order.ghosts.cmp a b
ties a b = search (comparing, rules)

pub flags_order : Orders order.ghosts.cmp flag_entry_key
flags_order = record {
  total = total-law;
  same = λ a b h. search (comparing, rules);
  before = λ a b. bit_before a.bit b.bit (bool_cmp a.value b.value) (cond a.value 1 0 ∷ []) (cond b.value 1 0 ∷ []) (value_before a.value b.value);
}
