-- The number that an argument writes, as it is read.
use Rattle.std.proofs.Common.{◌≡◌, ◌<◌, ◌≤◌, ◌^◌, ℕ, Bool, true, false, [], ◌∷◌, drop, Option, Some, None, Result, Ok, Err, is_some, cond, sym, subst, refl, arith, zero, suc, ◌==◌}
use Rattle.std.specs.Prelude.{unwrap_or, pos, if◌then◌else◌, ◌≤ℤ◌, FitsSigned, neg_ℤ}
use Rattle.std.specs.Char.{digit_value}
use Rattle.std.specs.Int.{w64}
use Rattle.std.proofs.lemmas.Bool.{eqb-true}
use Rattle.std.proofs.lemmas.Int.{ints}
use Rattle.std.specs.Str.Parse.{digits_value, IsNumeral, without_leading_plus, ParsesUnsigned}
use Rattle.clap.specs.Lexer.{without_minus}
use Rattle.clap.specs.Matches.{ReadsOne}
use Rattle.clap.specs.Values.{IsSignedIn}
use Rattle.clap.specs.Walk.{Text}

-- a number that is there is read
pub there : (E : Type 0) (gives : Text → Result ℕ E → Type 0) → ((t : Text) (r : Result ℕ E) → gives t r → ParsesUnsigned 32 10 t r)
    → (o : Option Text) (n : Option ℕ) → is_some o ≡ true → IsNumeral 10 (without_leading_plus (unwrap_or o []))
    → digits_value 10 (without_leading_plus (unwrap_or o [])) ≤ 4294967295
    → ((t : Text) → o ≡ Some t → ReadsOne gives t n) → unwrap_or n 0 ≡ digits_value 10 (without_leading_plus (unwrap_or o []))
there E gives parses None n e numeral most read = cc
there E gives parses (Some t) None e numeral most read =
    let below : digits_value 10 (without_leading_plus t) < 2 ^ 32 = omega arith in
    absurd (parses t (Err (read t refl).0) (read t refl).1 (numeral, below))
there E gives parses (Some t) (Some v) e numeral most read = (parses t (Ok v) (read t refl)).1

-- a numeral has no plus before it
plain : (ds : Text) → IsNumeral 10 ds → without_leading_plus ds ≡ ds
plain [] h = absurd (omega (arith, h.0))
plain (d ∷ ds) h = go (d == 43) refl
  where
    go : (b : Bool) → (d == 43) ≡ b → drop (cond b 1 0) (d ∷ ds) ≡ d ∷ ds
    go true e =
        let is : d ≡ 43 = eqb-true d 43 e in
        let small : digit_value 43 < 10 = subst (λ n. digit_value n < 10) is h.1.0 in
        absurd (omega (arith, small))
    go false e = refl

-- what the parser of a number takes: digits behind a sign, which is a minus only before 0
pub record IsWritten (low high : ℕ) (digits : Text) : Type 0 where
  pub numeral : IsNumeral 10 digits
  pub least : low ≤ digits_value 10 digits
  pub most : digits_value 10 digits ≤ high

from_minus : (low high n : ℕ) → pos low ≤ℤ neg_ℤ (pos n) → neg_ℤ (pos n) ≤ℤ pos high → (low ≤ n) × (n ≤ high)
from_minus low high zero a b = (omega (arith, ints, a), omega (arith, ints, b))
from_minus low high (suc k) a b = absurd (omega (arith, ints, a))

pub written : (low high : ℕ) (text : Text) → IsSignedIn (pos low) (pos high) text → IsWritten low high (without_leading_plus (without_minus text))
written low high [] h = absurd (omega (arith, h.0.0))
written low high (c ∷ cs) h = go (c == 45) refl h
  where
    go : (b : Bool) → (c == 45) ≡ b
        → IsNumeral 10 (cond b cs (without_leading_plus (c ∷ cs))) × FitsSigned w64 (cond b (neg_ℤ (pos (digits_value 10 (cond b cs (without_leading_plus (c ∷ cs)))))) (pos (digits_value 10 (cond b cs (without_leading_plus (c ∷ cs))))))
        × (pos low ≤ℤ cond b (neg_ℤ (pos (digits_value 10 (cond b cs (without_leading_plus (c ∷ cs)))))) (pos (digits_value 10 (cond b cs (without_leading_plus (c ∷ cs))))))
        × (cond b (neg_ℤ (pos (digits_value 10 (cond b cs (without_leading_plus (c ∷ cs)))))) (pos (digits_value 10 (cond b cs (without_leading_plus (c ∷ cs))))) ≤ℤ pos high)
        → IsWritten low high (without_leading_plus (unwrap_or (if b then Some cs else None) (c ∷ cs)))
    go true e (numeral, fits, a, b) =
        let bounds = from_minus low high (digits_value 10 cs) a b in
        subst (IsWritten low high) (sym (plain cs numeral)) (record { numeral = numeral; least = bounds.0; most = bounds.1 })
    go false e (numeral, fits, a, b) = record { numeral = numeral; least = omega (arith, ints, a); most = omega (arith, ints, b) }
