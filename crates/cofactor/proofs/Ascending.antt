-- The order that a sort gives state bits.
use Rattle.std.proofs.Common.{◌≡◌, inl, inr, subst, refl, rules, arith, ℕ, zero, suc, ◌==◌, List, [], ◌∷◌, Some, slice_get, Bool, true, false, cond, nat_lt, ltb-true, eqb-true, Less, Equal, Greater}
use Rattle.std.specs.Cmp.{IsTotalOrder, IsEquivalence}
use Rattle.std.specs.Cmp.Rules.{comparing}
use Rattle.std.specs.List.{AllByRecursion}
use Rattle.std.specs.List.Sorted.{IsStrictlySortedBy}
use Rattle.std.specs.Ordering.{eq_by_cmp, ordering_then}
use Rattle.cdc_base.specs.contracts.bit.BitOrd.TheImpl as order
use Rattle.cdc_base.specs.contracts.bit.BitPartialEq.TheImpl as equality
use Rattle.cdc_base.specs.declared.bit.Bit.{Bit}
use Rattle.cofactor.specs.Order.{IsBefore, AreAscending}

pub total : IsTotalOrder order.ghosts.cmp
total = search (comparing, rules)

pub equal_bits : IsEquivalence equality.ghosts.eq
equal_bits = search (comparing, rules)

pub equal-is : (a b : Bit) → equality.ghosts.eq a b ≡ true → a ≡ b
equal-is a b h = search rules

pub ties : (a b : Bit) → equality.ghosts.eq a b ≡ eq_by_cmp order.ghosts.cmp a b
ties a b = search (comparing, rules)

less : (a b : Bit) → order.ghosts.cmp a b ≡ Less → IsBefore a b
less a b h = go (nat_lt a.sig b.sig) refl (a.sig == b.sig) refl (nat_lt a.at b.at) refl (a.at == b.at) h
  where
    go : (p : Bool) → nat_lt a.sig b.sig ≡ p → (q : Bool) → (a.sig == b.sig) ≡ q → (r : Bool) → nat_lt a.at b.at ≡ r → (s : Bool)
        → ordering_then (cond p Less (cond q Equal Greater)) (cond r Less (cond s Equal Greater)) ≡ Less → IsBefore a b
    go true e q f r g s k = inl (ltb-true a.sig b.sig e)
    go false e true f true g s k = inr (eqb-true a.sig b.sig f, ltb-true a.at b.at g)
    go false e true f false g true k = absurd (cc)
    go false e true f false g false k = absurd (cc)
    go false e false f r g s k = absurd (cc)

all_get : (P : Bit → Type 0) (xs : List Bit) (j : ℕ) (d : Bit) → AllByRecursion P xs → slice_get xs j ≡ Some d → P d
all_get P [] j d h e = absurd (cc)
all_get P (x ∷ xs) zero d h e = let s : x ≡ d = cc in subst P s h.0
all_get P (x ∷ xs) (suc j) d h e = all_get P xs j d h.1 e

pub ascending : (bits : List Bit) → IsStrictlySortedBy order.ghosts.cmp bits → AreAscending bits
unfolding IsStrictlySortedBy
ascending [] h i j c d lt at there = absurd (cc)
ascending (x ∷ xs) h zero zero c d lt at there = absurd (omega arith)
ascending (x ∷ xs) h zero (suc j) c d lt at there = let s : x ≡ c = cc in subst (λ (y : Bit). IsBefore y d) s (less x d (all_get (λ y. order.ghosts.cmp x y ≡ Less) xs j d h.0 there))
ascending (x ∷ xs) h (suc i) zero c d lt at there = absurd (omega arith)
ascending (x ∷ xs) h (suc i) (suc j) c d lt at there = ascending xs h.1 i j c d (omega arith) at there
