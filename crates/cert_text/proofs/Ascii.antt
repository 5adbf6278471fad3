-- Printed names are ASCII.
use Rattle.std.proofs.Common.{◌≡◌, ◌∙◌, sym, refl, ap, arith, ℕ, zero, suc, ◌<◌, ◌≤◌, ◌==◌, Bool, true, false, [], ◌∷◌, inl, inr}
use Rattle.std.specs.Prelude.{if◌then◌else◌}
use Rattle.std.specs.Char.{is_ascii_digit}
use Rattle.std.specs.Str.{IsAscii}
use Rattle.std.proofs.lemmas.Bool.{cases_lt}
use Rattle.std.proofs.lemmas.Bool.Decides.{nat_tests}
use Rattle.cdc_base.specs.declared.bytes.Class.TheVariants as class
use Rattle.cdc_base.specs.Bytes.{in_class, is_word_start}
use Rattle.clock_constraints.specs.Refusals.{Text}
use Rattle.cert_text.specs.declared.names.Part.{Part}
use Rattle.cert_text.specs.declared.names.Part.TheVariants.{Begin, Plain, Slash, Escaped, Behind, Bracket, Index, Closed, Broken}
use Rattle.cert_text.specs.Names.{behind_part, next_part, goes_on, is_name}

digit_high : (b : ℕ) → 128 ≤ b → is_ascii_digit b ≡ false
digit_high b h = grind (arith, nat_tests)

start_high : (b : ℕ) → 128 ≤ b → is_word_start b ≡ false
start_high b h = grind (arith, nat_tests)

word_high : (b : ℕ) → 128 ≤ b → in_class class.Word b ≡ false
word_high b h = grind (arith, nat_tests)

visible_high : (b : ℕ) → 128 ≤ b → in_class class.Visible b ≡ false
visible_high b h = grind (arith, nat_tests)

other : (b k : ℕ) → 128 ≤ b → k < 128 → (b == k) ≡ false
other b k h l = grind (arith, nat_tests)

chosen : (v w : Bool) (x y z : Part) → v ≡ false → w ≡ false → (if v then x else if w then y else z) ≡ z
chosen true w x y z e f = cc
chosen false true x y z e f = cc
chosen false false x y z e f = refl

behind_high : (b : ℕ) → 128 ≤ b → behind_part b ≡ Broken
behind_high b h = chosen (b == 46) (b == 91) Begin Bracket Broken (other b 46 h (omega arith)) (other b 91 h (omega arith))

one_of : (v : Bool) (x z : Part) → v ≡ false → (if v then x else z) ≡ z
one_of true x z e = cc
one_of false x z e = refl

-- no name goes on with a byte that isn't ASCII
next_high : (p : Part) (b : ℕ) → 128 ≤ b → next_part p b ≡ Broken
next_high Begin b h = chosen (is_word_start b) (b == 92) Plain Slash Broken (start_high b h) (other b 92 h (omega arith))
next_high Plain b h = one_of (in_class class.Word b) Plain (behind_part b) (word_high b h) ∙ behind_high b h
next_high Slash b h = one_of (in_class class.Visible b) Escaped Broken (visible_high b h)
next_high Escaped b h = chosen (in_class class.Visible b) (b == 32) Escaped Behind Broken (visible_high b h) (other b 32 h (omega arith))
next_high Behind b h = behind_high b h
next_high Bracket b h = one_of (is_ascii_digit b) Index Broken (digit_high b h)
next_high Index b h = chosen (is_ascii_digit b) (b == 93) Index Closed Broken (digit_high b h) (other b 93 h (omega arith))
next_high Closed b h = refl
next_high Broken b h = refl

never : false ≡ true → ⊥
never e = cc

broken_stays : (bs : Text) → goes_on Broken bs ≡ false
broken_stays [] = refl
broken_stays (b ∷ bs) = broken_stays bs

goes_ascii : (p : Part) (bs : Text) → goes_on p bs ≡ true → IsAscii bs
goes_ascii p [] h i = omega arith
goes_ascii p (b ∷ bs) h zero = elim (cases_lt b 128) [
  | inl l ↦ l
  | inr l ↦ absurd (never (sym (ap (λ q. goes_on q bs) (next_high p b l) ∙ broken_stays bs) ∙ h))
]
goes_ascii p (b ∷ bs) h (suc i) = goes_ascii (next_part p b) bs h i

pub name_ascii : (text : Text) → is_name text ≡ true → IsAscii text
name_ascii text h = goes_ascii Begin text h
