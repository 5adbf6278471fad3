-- Places in lists, and bits by their names.
use Rattle.std.proofs.Common.{◌≡◌, ◌∙◌, ℕ, zero, suc, ◌+◌, ◌*◌, ◌/◌, ◌%◌, ◌^◌, ◌<◌, ◌≤◌, ◌==◌, nat_lt, nat_le, Bool, true, false, not, cond, List, [], ◌∷◌, length, Option, Some, None, refl, sym, ap, subst, arith, ltb-true, ltb-false, rules, ◌⊎◌, inl, inr}
use Rattle.std.specs.Prelude.{IfSome, position, slice_get, option_map, if◌then◌else◌}
use Rattle.std.specs.List.{position_or_len}
use Rattle.std.specs.Str.{bytes_eq}
use Rattle.std.proofs.lemmas.Bool.Decides.{nat_tests}
use Rattle.std.proofs.lemmas.Slice.Eq.{bytes_eq-Decides}
use Rattle.std.proofs.lemmas.Nat.{pow_pos}
use Rattle.std.proofs.Math.Nat.{div-eq_of_lt, lt-div-mul-add}
use Rattle.std.proofs.Math.Pow.{pow_mono}
use Rattle.cdc_base.specs.declared.bit.Bit.{Bit}
use Rattle.cdc_base.specs.declared.signal.Signal.{Signal}
use Rattle.cdc_base.specs.Bits.{bit_text}
use Rattle.cdc_base.specs.declared.fault.Fault.{Fault}
use Rattle.cdc_base.specs.declared.fault.Stop.{Stop}
use Rattle.cdc_base.specs.declared.fault.Stop.TheVariants.{Refused, Memory}
use Rattle.clock_constraints.specs.Refusals.{Text, IsStop}
use Rattle.refusals.specs.Numbers.{is_listed, HasNumberIn}
use Rattle.domains.specs.Tables.{or_else}
use Rattle.run_file.specs.Names.{offset_named, bit_from}

-- a place lies in its list
pub place-few : {A : Type 0} (p : A → Bool) (xs : List A) (n : ℕ) → length xs ≤ n → IfSome (position p xs) (λ k. k < n)
place-few p xs n h = go (nat_lt (position_or_len p xs) (length xs)) refl
  where
    go : (t : Bool) → nat_lt (position_or_len p xs) (length xs) ≡ t → IfSome (cond t (Some (position_or_len p xs)) None) (λ k. k < n)
    go true e = let l = ltb-true (position_or_len p xs) (length xs) e in omega arith
    go false e = tt

-- a value shifted to nothing is below the power
pub wide : (v w : ℕ) → not (v / 2 ^ w == 0) ≡ nat_le (2 ^ w) v
wide v w = go (nat_lt v (2 ^ w)) refl
  where
    go : (t : Bool) → nat_lt v (2 ^ w) ≡ t → not (v / 2 ^ w == 0) ≡ nat_le (2 ^ w) v
    go true e = let l = ltb-true v (2 ^ w) e in let none : v / 2 ^ w ≡ 0 = div-eq_of_lt l in grind (arith, nat_tests)
    go false e =
        let le = ltb-false v (2 ^ w) e in
        let less : v < v / 2 ^ w * 2 ^ w + 2 ^ w = lt-div-mul-add (pow_pos w) in
        small (v / 2 ^ w) refl le less
      where
        small : (q : ℕ) → v / 2 ^ w ≡ q → 2 ^ w ≤ v → v < v / 2 ^ w * 2 ^ w + 2 ^ w → not (v / 2 ^ w == 0) ≡ nat_le (2 ^ w) v
        small zero f le less = absurd (let none : v / 2 ^ w * 2 ^ w ≡ 0 * 2 ^ w = ap (λ k. k * 2 ^ w) f in omega arith)
        small (suc q) f le less = let some : 0 < v / 2 ^ w = omega (arith, f) in grind (arith, nat_tests)

-- no word needs more bits than it has
pub never-wider : (v w : ℕ) → v < 2 ^ 64 → 64 ≤ w → nat_lt w 64 ≡ nat_le (2 ^ w) v
never-wider v w h at_most =
    let more : 2 ^ 64 ≤ 2 ^ w = pow_mono at_most in
    let less : v < 2 ^ w = omega arith in
    grind (arith, nat_tests)

pub text-same : (a b : List ℕ) → bytes_eq a b ≡ true → a ≡ b
text-same a b h = search (rules, bytes_eq-Decides)

offset-named : (s : Signal) (t : List ℕ) (n at : ℕ) → offset_named s t n ≡ Some at → (at < n) × (t ≡ bit_text s at)
offset-named s t zero at e = cc
offset-named s t (suc n) at e = go (offset_named s t n) refl e (offset-named s t n at)
  where
    here : (v : Bool) → bytes_eq t (bit_text s n) ≡ v → cond v (Some n) None ≡ Some at → (at < suc n) × (t ≡ bit_text s at)
    here true f g = let same : n ≡ at = cc in (omega arith, subst (λ (k : ℕ). t ≡ bit_text s k) same (text-same t (bit_text s n) f))
    here false f g = cc

    go : (o : Option ℕ) → offset_named s t n ≡ o → or_else o (if bytes_eq t (bit_text s n) then Some n else None) ≡ Some at
        → (offset_named s t n ≡ Some at → (at < n) × (t ≡ bit_text s at)) → (at < suc n) × (t ≡ bit_text s at)
    go (Some k) f g ih = let p = ih (f ∙ g) in (let l = p.0 in omega arith, p.1)
    go None f g ih = here (bytes_eq t (bit_text s n)) refl g

-- a bit that is found has the name
pub record IsFoundAt (k : ℕ) (ss : List Signal) (t : List ℕ) (b : Bit) : Type 0 where
  pub place : ℕ
  pub sig : b.sig ≡ k + place
  pub signal : Signal
  pub there : slice_get ss place ≡ Some signal
  pub within : b.at < signal.width
  pub named : t ≡ bit_text signal b.at

pub bit-found : (k : ℕ) (ss : List Signal) (t : List ℕ) (b : Bit) → bit_from k ss t ≡ Some b → IsFoundAt k ss t b
bit-found k [] t b e = cc
bit-found k (s ∷ ss) t b e = go (offset_named s t s.width) refl e (bit-found (k + 1) ss t b)
  where
    later : IsFoundAt (k + 1) ss t b → IsFoundAt k (s ∷ ss) t b
    later f = record { place = suc f.place; sig = (let l = f.sig in omega arith); signal = f.signal; there = f.there; within = f.within; named = f.named }

    go : (o : Option ℕ) → offset_named s t s.width ≡ o → or_else (option_map (λ at. record { sig = k; at = at }) o) (bit_from (k + 1) ss t) ≡ Some b
        → (bit_from (k + 1) ss t ≡ Some b → IsFoundAt (k + 1) ss t b) → IsFoundAt k (s ∷ ss) t b
    go None f g ih = later (ih g)
    go (Some at) f g ih =
        let p = offset-named s t s.width at f in
        let made : Bit = record { sig = k; at = at } in
        let is : made ≡ b = cc in
        subst (λ (c : Bit). IsFoundAt k (s ∷ ss) t c) is (record { place = zero; sig = omega arith; signal = s; there = refl; within = p.0; named = p.1 })

-- a refusal with a listed number
pub stop-listed : (numbers : List ℕ) (number : ℕ) (name : Text) (s : Stop) → is_listed numbers number ≡ true → IsStop number name s → HasNumberIn numbers s
stop-listed numbers number name Memory h is = tt
stop-listed numbers number name (Refused f) h is = ap (λ (g : Fault). is_listed numbers g.number) is ∙ h
