-- Words that spaces join are the words of their text.
use Rattle.std.proofs.Common.{◌≡◌, ◌∙◌, refl, ap, ap₂, arith, ℕ, ◌+◌, ◌*◌, ◌-◌, ◌/◌, ◌%◌, ◌<◌, ◌≤◌, ◌^◌, ◌==◌, ◌&&◌, ◌||◌, not, Bool, true, false, Some, None, List, [], ◌∷◌, ◌++◌, append_assoc, lt-ltb}
use Rattle.std.specs.Prelude.{if◌then◌else◌, nat_lt}
use Rattle.std.specs.Char.{is_ascii_digit}
use Rattle.std.specs.Fmt.{decimal}
use Rattle.std.specs.List.{list_all}
use Rattle.std.proofs.lemmas.Fmt.{decimal_by_steps}
use Rattle.std.proofs.lemmas.Bool.Decides.{nat_tests}
use Rattle.cert_text.specs.Names.{is_name}
use Rattle.cert_text.specs.Words.{is_decimal, leads_plainly, number_below, onto_word, stays_escaped, value_from, words_from, words_of}
use Rattle.cert_text.proofs.Feeds.{HasNoEnd}
use Rattle.cert_text.proofs.Spelled.{name_alone, name_in_front, name_has_no_end}
use Rattle.clock_constraints.specs.Refusals.{Text}

-- A word: alone and in front of a space it is read as itself, and it ends no line.
pub record IsWord (w : Text) : Type 0 where
  pub alone : words_of w ≡ w ∷ []
  pub in_front : (rest : Text) → words_of (w ++ 32 ∷ rest) ≡ w ∷ words_of rest
  pub no_end : HasNoEnd w

abbrev pub AreWords : List Text → Type 0
AreWords [] = Unit {0}
AreWords (w ∷ ws) = IsWord w × AreWords ws

-- words, separated by spaces
abbrev pub joined : Text → List Text → Text
joined w [] = w
joined w (v ∷ vs) = w ++ 32 ∷ joined v vs

pub words_joined : (w : Text) (ws : List Text) → AreWords (w ∷ ws) → words_of (joined w ws) ≡ w ∷ ws
words_joined w [] h = h.0.alone
words_joined w (v ∷ vs) h = h.0.in_front (joined v vs) ∙ ap (λ xs. w ∷ xs) (words_joined v vs h.1)

no_end_append : (a b : Text) → HasNoEnd a → HasNoEnd b → HasNoEnd (a ++ b)
no_end_append [] b h k = k
no_end_append (x ∷ xs) b h k = (h.0, no_end_append xs b h.1 k)

pub no_end_joined : (w : Text) (ws : List Text) → AreWords (w ∷ ws) → HasNoEnd (joined w ws)
no_end_joined w [] h = h.0.no_end
no_end_joined w (v ∷ vs) h = no_end_append w (32 ∷ joined v vs) h.0.no_end (refl, no_end_joined v vs h.1)

pub joined_append : (w : Text) (ws : List Text) (v : Text) (vs : List Text) → joined w (ws ++ v ∷ vs) ≡ joined w ws ++ 32 ∷ joined v vs
joined_append w [] v vs = refl
joined_append w (u ∷ us) v vs = ap (λ (t : Text). w ++ 32 ∷ t) (joined_append u us v vs) ∙ (let e : w ++ 32 ∷ (joined u us ++ 32 ∷ joined v vs) ≡ (w ++ 32 ∷ joined u us) ++ 32 ∷ joined v vs = simp append_assoc in e)

pub are_words_append : (ws vs : List Text) → AreWords ws → AreWords vs → AreWords (ws ++ vs)
are_words_append [] vs h k = k
are_words_append (w ∷ ws) vs h k = (h.0, are_words_append ws vs h.1 k)

pub name_is_word : (w : Text) → is_name w ≡ true → IsWord w
name_is_word w h = record { alone = name_alone w h; in_front = λ rest. name_in_front w rest h; no_end = name_has_no_end w h }

-- ---- decimals

digit_is : (d : ℕ) → is_ascii_digit d ≡ true → ((d == 32) ≡ false) × ((d == 92) ≡ false) × ((d == 10) ≡ false)
digit_is d h = (grind (arith, nat_tests), grind (arith, nat_tests), grind (arith, nat_tests))

digit_at : (n : ℕ) → n < 10 → is_ascii_digit (48 + n) ≡ true
digit_at n h = grind (arith, nat_tests)

abbrev AreDigits : Text → Type 0
AreDigits [] = Unit {0}
AreDigits (d ∷ ds) = (is_ascii_digit d ≡ true) × AreDigits ds

digits_append : (ds es : Text) → AreDigits ds → AreDigits es → AreDigits (ds ++ es)
digits_append [] es h k = k
digits_append (d ∷ ds) es h k = (h.0, digits_append ds es h.1 k)

digit_on : (d : ℕ) (ds w : Text) (ws : List Text) → is_ascii_digit d ≡ true → words_of ds ≡ w ∷ ws → words_of (d ∷ ds) ≡ (d ∷ w) ∷ ws
digit_on d ds w ws h e =
    let (s, b, n) = digit_is d h in
    ap (λ (v : Bool). if v then [] ∷ words_from false ds else onto_word (d ∷ []) (words_from (stays_escaped false d) ds)) s
    ∙ (ap₂ (λ (u v : Bool). onto_word (d ∷ []) (words_from (not u && (false || v)) ds)) s b ∙ ap (onto_word (d ∷ [])) e)

digits_alone : (ds : Text) → AreDigits ds → words_of ds ≡ ds ∷ []
digits_alone [] h = refl
digits_alone (d ∷ ds) h = digit_on d ds ds [] h.0 (digits_alone ds h.1)

digits_in_front : (ds rest : Text) → AreDigits ds → words_of (ds ++ 32 ∷ rest) ≡ ds ∷ words_of rest
digits_in_front [] rest h = refl
digits_in_front (d ∷ ds) rest h = digit_on d (ds ++ 32 ∷ rest) ds (words_of rest) h.0 (digits_in_front ds rest h.1)

digits_no_end : (ds : Text) → AreDigits ds → HasNoEnd ds
digits_no_end [] h = tt
digits_no_end (d ∷ ds) h = ((digit_is d h.0).2, digits_no_end ds h.1)

all_digits : (ds : Text) → AreDigits ds → list_all is_ascii_digit ds ≡ true
all_digits [] h = refl
all_digits (d ∷ ds) h = ap₂ (λ u v. u && v) h.0 (all_digits ds h.1)

value_append : (n : ℕ) (ds : Text) (d : ℕ) → value_from n (ds ++ d ∷ []) ≡ value_from n ds * 10 + (d - 48)
value_append n [] d = refl
value_append n (e ∷ es) d = value_append (n * 10 + (e - 48)) es d

-- Digits of a number: one, or several of which the first is no zero.
record IsDecimalOf (n : ℕ) (ds : Text) : Type 0 where
  digits : AreDigits ds
  value : value_from 0 ds ≡ n
  leads : leads_plainly ds ≡ true
  more : 1 ≤ n → (k : ℕ) (es : Text) → leads_plainly (ds ++ k ∷ es) ≡ true

one : (n : ℕ) → n < 10 → IsDecimalOf n ((48 + n) ∷ [])
one n h = record {
  digits = (digit_at n h, tt);
  value = omega arith;
  leads = refl;
  more = λ p k es. grind (arith, nat_tests);
}

more_digits : (n : ℕ) (ds : Text) → 10 ≤ n → IsDecimalOf (n / 10) ds → IsDecimalOf n (ds ++ (48 + n % 10) ∷ [])
more_digits n ds h k = record {
  digits = digits_append ds ((48 + n % 10) ∷ []) k.digits (digit_at (n % 10) (omega arith), tt);
  value = value_append 0 ds (48 + n % 10) ∙ (ap (λ v. v * 10 + (48 + n % 10 - 48)) k.value ∙ (let e : n / 10 * 10 + (48 + n % 10 - 48) ≡ n = omega arith in e));
  leads = k.more (omega arith) (48 + n % 10) [];
  more = λ p j es. (let e : (ds ++ (48 + n % 10) ∷ []) ++ j ∷ es ≡ ds ++ (48 + n % 10) ∷ (j ∷ es) = simp append_assoc in ap leads_plainly e) ∙ k.more (omega arith) (48 + n % 10) (j ∷ es);
}

is_decimal_of : (n : ℕ) → n < 2 ^ 64 → IsDecimalOf n (decimal n)
is_decimal_of = decimal_by_steps (λ n ds. IsDecimalOf n ds) one more_digits

pub decimal_is_word : (n : ℕ) → n < 2 ^ 64 → IsWord (decimal n)
decimal_is_word n h =
    let d = is_decimal_of n h in
    record { alone = digits_alone (decimal n) d.digits; in_front = λ rest. digits_in_front (decimal n) rest d.digits; no_end = digits_no_end (decimal n) d.digits }

pub decimal_is : (n : ℕ) → n < 2 ^ 64 → is_decimal (decimal n) ≡ true
decimal_is n h = let d = is_decimal_of n h in ap₂ (λ u v. u && v) d.leads (all_digits (decimal n) d.digits)

-- it is read as the number
pub number_of : (bound n : ℕ) → n < bound → n < 2 ^ 64 → number_below bound (decimal n) ≡ Some n
number_of bound n l h =
    let d = is_decimal_of n h in
    ap₂ (λ (v : Bool) (k : ℕ). if v && nat_lt k bound then Some k else None) (decimal_is n h) d.value
    ∙ ap (λ (v : Bool). if v then Some n else None) (lt-ltb n bound l)
