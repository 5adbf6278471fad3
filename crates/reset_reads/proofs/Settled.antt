-- Signals that resolve to the resets that they are declared as.
use Rattle.std.proofs.Common.{◌≡◌, ℕ, zero, suc, ◌+◌, ◌<◌, ◌≤◌, Bool, true, false, ◌||◌, nat_lt, List, [], ◌∷◌, length, Option, Some, None, refl, subst, arith, rules, ltb-true, ltb-false}
use Rattle.std.specs.Prelude.{is_some, is_none}
use Rattle.cdc_base.specs.declared.signal.ResetPin.{ResetPin}
use Rattle.flat_unfolding.specs.Names.{Entry, pin_of, reset_at}
use Rattle.flat_unfolding.specs.Design.{change_entry, change_from}
use Rattle.flat_unfolding.specs.Unfolding.{declared_reset}
use Rattle.flat_unfolding.proofs.Entries.{same_length}
use Rattle.flat_unfolding.proofs.Grown.{told, told_none}

-- ---- what a change of one entry keeps

module _ (p : Entry → Bool) (b : Bool) (f : Entry → Entry) where
  pub told_kept : ((e : Entry) → p e ≡ true → p (f e) ≡ true) → (t : ℕ) (es : List Entry) (s : ℕ) → told p b es s ≡ true → told p b (change_entry f t es) s ≡ true
  told_kept h t [] s k = k
  told_kept h zero (e ∷ es) zero k = h e k
  told_kept h zero (e ∷ es) (suc s) k = k
  told_kept h (suc t) (e ∷ es) zero k = k
  told_kept h (suc t) (e ∷ es) (suc s) k = told_kept h t es s k

  told_made : b ≡ true → ((e : Entry) → p (f e) ≡ true) → (es : List Entry) (s : ℕ) → told p b (change_entry f s es) s ≡ true
  told_made d h [] s = d
  told_made d h (e ∷ es) zero = h e
  told_made d h (e ∷ es) (suc s) = told_made d h es s

module _ (pins : List ResetPin) where
  -- no reset is declared by its name
  abbrev pub is_unpinned : Entry → Bool
  is_unpinned e = is_none (pin_of pins e)

  abbrev pub is_settled : Entry → Bool
  is_settled e = is_some e.reset || is_unpinned e

  -- declared signals alone are
  abbrev pub unpinned : List Entry → ℕ → Bool
  unpinned es s = told is_unpinned false es s

  abbrev pub settled : List Entry → ℕ → Bool
  settled es s = told is_settled true es s

  abbrev pub AreSettled : List Entry → Type 0
  AreSettled es = (s : ℕ) → settled es s ≡ true

  -- a settled signal that resolves to none is none
  pub unpinned_is : (es : List Entry) (s : ℕ) → s < length es → settled es s ≡ true → reset_at es s ≡ None → unpinned es s ≡ true
  unpinned_is [] s l h r = absurd (omega (arith, l))
  unpinned_is (e ∷ es) zero l h r = go e.reset r h
    where
      go : (o : Option ResetPin) → o ≡ None → (is_some o || is_unpinned e) ≡ true → is_unpinned e ≡ true
      go None r h = h
      go (Some x) r h = absurd (search (rules, r))
  unpinned_is (e ∷ es) (suc s) l h r = unpinned_is es s (let k : s < length es = omega (arith, l) in k) h r

  -- ---- all signals from a number on become the resets that they are declared as

  pub becomes : (e : Entry) → is_settled (declared_reset pins e) ≡ true
  becomes e = go (pin_of pins e)
    where
      go : (o : Option ResetPin) → (is_some o || is_none o) ≡ true
      go None = refl
      go (Some r) = refl

  pub settles : (s more : ℕ) (es : List Entry) → length es ≤ s + more → ((i : ℕ) → i < s → settled es i ≡ true) → AreSettled (change_from (declared_reset pins) s more es)
  settles s zero es l h = λ i. go i (nat_lt i s) refl
    where
      go : (i : ℕ) (b : Bool) → nat_lt i s ≡ b → settled es i ≡ true
      go i true e = h i (ltb-true i s e)
      go i false e = let m = ltb-false i s e in told_none is_settled true es i (let k : length es ≤ i = omega (arith, l, m) in k)
  settles s (suc more) es l h = settles (suc s) more es_after (let n = same_length f s es in let k : length es_after ≤ suc s + more = omega (arith, l, n) in k) (λ i k. go i k (nat_lt i s) refl)
    where
      f : Entry → Entry
      f = declared_reset pins

      es_after : List Entry
      es_after = change_entry f s es

      go : (i : ℕ) → i < suc s → (b : Bool) → nat_lt i s ≡ b → settled es_after i ≡ true
      go i k true e = told_kept is_settled true f (λ x y. becomes x) s es i (h i (ltb-true i s e))
      go i k false e =
          let m = ltb-false i s e in let q : s ≡ i = omega (arith, k, m) in
          subst (λ j. settled es_after j ≡ true) q (told_made is_settled true f refl becomes es s)
