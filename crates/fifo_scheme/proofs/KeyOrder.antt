-- The order of the keys of candidates.
use Rattle.std.proofs.Common.{◌≡◌, refl, rules, ℕ, ◌==◌, ◌&&◌, ◌||◌, nat_lt, [], ◌∷◌, Bool, true, false, cond, Less, Equal, Greater}
use Rattle.std.specs.Cmp.Rules.{comparing}
use Rattle.std.specs.Ordering.{eq_by_cmp, is_lt, nat_cmp, ordering_then}
use Rattle.cdc_model.specs.Ordered.{is_before}
use Rattle.cdc_model.proofs.Keys.{Orders, number_before}
use Rattle.fifo_scheme.specs.contracts.finder.KeyOrd.TheImpl as order
use Rattle.fifo_scheme.specs.contracts.finder.KeyOrd.TheImpl.Laws.{total-law}
use Rattle.fifo_scheme.specs.declared.finder.Key.{Key}
use Rattle.fifo_scheme.specs.Candidates.{numbers_of}

pub equal_is : (a b : Key) → eq_by_cmp order.ghosts.cmp a b ≡ true → a ≡ b
equal_is a b h = search rules

pub equal_to_itself : (a : Key) → eq_by_cmp order.ghosts.cmp a a ≡ true
equal_to_itself a = search (comparing, rules)

last_number : (m n : ℕ) → is_before (m ∷ []) (n ∷ []) ≡ is_lt (nat_cmp m n)
last_number m n = go (nat_lt m n) (m == n)
  where
    go : (p q : Bool) → (p || (q && false)) ≡ is_lt (cond p Less (cond q Equal Greater))
    go true q = refl
    go false true = refl
    go false false = refl

pub keys_order : Orders order.ghosts.cmp numbers_of
keys_order = record {
  total = total-law;
  same = λ a b h. search (comparing, rules);
  before = λ a b. number_before a.wb b.wb (ordering_then (nat_cmp a.wg b.wg) (ordering_then (nat_cmp a.rb b.rb) (nat_cmp a.rg b.rg))) (a.wg ∷ a.rb ∷ a.rg ∷ []) (b.wg ∷ b.rb ∷ b.rg ∷ [])
      (number_before a.wg b.wg (ordering_then (nat_cmp a.rb b.rb) (nat_cmp a.rg b.rg)) (a.rb ∷ a.rg ∷ []) (b.rb ∷ b.rg ∷ [])
      (number_before a.rb b.rb (nat_cmp a.rg b.rg) (a.rg ∷ []) (b.rg ∷ []) (last_number a.rg b.rg)));
}
