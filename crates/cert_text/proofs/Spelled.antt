-- Printed names are words.
use Rattle.std.proofs.Common.{◌≡◌, ◌∙◌, refl, sym, ap, ap₂, subst, arith, ℕ, ◌==◌, ◌&&◌, ◌||◌, not, Bool, true, false, List, [], ◌∷◌, ◌++◌}
use Rattle.std.specs.Prelude.{if◌then◌else◌}
use Rattle.std.specs.Char.{is_ascii_digit}
use Rattle.std.proofs.lemmas.Bool.Decides.{nat_tests}
use Rattle.cdc_base.specs.declared.bytes.Class.TheVariants as class
use Rattle.cdc_base.specs.Bytes.{in_class, is_word_start}
use Rattle.cert_text.specs.declared.names.Part.{Part}
use Rattle.cert_text.specs.declared.names.Part.TheVariants.{Begin, Plain, Slash, Escaped, Behind, Bracket, Index, Closed, Broken}
use Rattle.cert_text.specs.Names.{behind_part, goes_on, is_name, may_end, next_part}
use Rattle.cert_text.specs.Words.{onto_word, parts_words, stays_escaped, words_from, words_of}
use Rattle.cert_text.proofs.Feeds.{HasNoEnd}
use Rattle.clock_constraints.specs.Refusals.{Text}

-- a space would be part of the name here
abbrev escapes : Part → Bool
escapes Begin = false
escapes Plain = false
escapes Slash = true
escapes Escaped = true
escapes Behind = false
escapes Bracket = false
escapes Index = false
escapes Closed = false
escapes Broken = false

broken_on : (bs : Text) → goes_on Broken bs ≡ true → ⊥
broken_on [] h = cc
broken_on (b ∷ bs) h = broken_on bs h

closed_on : (b : ℕ) (bs : Text) → goes_on Closed (b ∷ bs) ≡ true → ⊥
closed_on b bs h = broken_on bs h

-- a byte that goes on with a name parts no words, and tells whether a space would be part of the name
abbrev Steps : Part → ℕ → Type 0
Steps p b = (parts_words (escapes p) b ≡ false) × (stays_escaped (escapes p) b ≡ escapes (next_part p b)) × ((b == 10) ≡ false)

-- bytes of words, of escaped names and of indices
word_is : (b : ℕ) → in_class class.Word b ≡ true → ((b == 32) ≡ false) × ((b == 92) ≡ false) × ((b == 10) ≡ false)
word_is b h = (grind (arith, nat_tests), grind (arith, nat_tests), grind (arith, nat_tests))

start_is : (b : ℕ) → is_word_start b ≡ true → ((b == 32) ≡ false) × ((b == 92) ≡ false) × ((b == 10) ≡ false)
start_is b h = (grind (arith, nat_tests), grind (arith, nat_tests), grind (arith, nat_tests))

visible_is : (b : ℕ) → in_class class.Visible b ≡ true → ((b == 32) ≡ false) × ((b == 10) ≡ false)
visible_is b h = (grind (arith, nat_tests), grind (arith, nat_tests))

digit_is : (b : ℕ) → is_ascii_digit b ≡ true → ((b == 32) ≡ false) × ((b == 92) ≡ false) × ((b == 10) ≡ false)
digit_is b h = (grind (arith, nat_tests), grind (arith, nat_tests), grind (arith, nat_tests))

just_is : (b k : ℕ) → (b == k) ≡ true → b ≡ k
just_is b k h = grind (arith, nat_tests)

-- neither a space nor a backslash nor a line feed
abbrev IsPlainByte : ℕ → Type 0
IsPlainByte b = ((b == 32) ≡ false) × ((b == 92) ≡ false) × ((b == 10) ≡ false)

plain : (b : ℕ) → IsPlainByte b → (parts_words false b ≡ false) × (stays_escaped false b ≡ false) × ((b == 10) ≡ false)
plain b (s, e, n) = (s, ap₂ (λ u v. not u && (false || v)) s e, n)

behind_steps : (b : ℕ) (bs : Text) → goes_on (behind_part b) bs ≡ true → IsPlainByte b × (escapes (behind_part b) ≡ false)
behind_steps b bs h = go (b == 46) refl h
  where
    then_bracket : (v : Bool) → (b == 91) ≡ v → goes_on (if v then Bracket else Broken) bs ≡ true → IsPlainByte b × (escapes (if v then Bracket else Broken) ≡ false)
    then_bracket true e k = (subst IsPlainByte (sym (just_is b 91 e)) (refl, refl, refl), refl)
    then_bracket false e k = absurd (broken_on bs k)

    go : (v : Bool) → (b == 46) ≡ v → goes_on (if v then Begin else if b == 91 then Bracket else Broken) bs ≡ true
        → IsPlainByte b × (escapes (if v then Begin else if b == 91 then Bracket else Broken) ≡ false)
    go true e k = (subst IsPlainByte (sym (just_is b 46 e)) (refl, refl, refl), refl)
    go false e k = then_bracket (b == 91) refl k

from_behind : (b : ℕ) (bs : Text) → goes_on (behind_part b) bs ≡ true → (parts_words false b ≡ false) × (stays_escaped false b ≡ escapes (behind_part b)) × ((b == 10) ≡ false)
from_behind b bs h = let r = behind_steps b bs h in let q = plain b r.0 in (q.0, q.1 ∙ sym r.1, q.2)

steps : (p : Part) (b : ℕ) (bs : Text) → goes_on p (b ∷ bs) ≡ true → Steps p b
steps Begin b bs h = go (is_word_start b) refl h
  where
    slash : (v : Bool) → (b == 92) ≡ v → goes_on (if v then Slash else Broken) bs ≡ true
        → (parts_words false b ≡ false) × (stays_escaped false b ≡ escapes (if v then Slash else Broken)) × ((b == 10) ≡ false)
    slash true e k = subst (λ (n : ℕ). (parts_words false n ≡ false) × (stays_escaped false n ≡ true) × ((n == 10) ≡ false)) (sym (just_is b 92 e)) (refl, refl, refl)
    slash false e k = absurd (broken_on bs k)

    go : (v : Bool) → is_word_start b ≡ v → goes_on (if v then Plain else if b == 92 then Slash else Broken) bs ≡ true
        → (parts_words false b ≡ false) × (stays_escaped false b ≡ escapes (if v then Plain else if b == 92 then Slash else Broken)) × ((b == 10) ≡ false)
    go true e k = plain b (start_is b e)
    go false e k = slash (b == 92) refl k
steps Plain b bs h = go (in_class class.Word b) refl h
  where
    go : (v : Bool) → in_class class.Word b ≡ v → goes_on (if v then Plain else behind_part b) bs ≡ true
        → (parts_words false b ≡ false) × (stays_escaped false b ≡ escapes (if v then Plain else behind_part b)) × ((b == 10) ≡ false)
    go true e k = plain b (word_is b e)
    go false e k = from_behind b bs k
steps Slash b bs h = go (in_class class.Visible b) refl h
  where
    go : (v : Bool) → in_class class.Visible b ≡ v → goes_on (if v then Escaped else Broken) bs ≡ true
        → (parts_words true b ≡ false) × (stays_escaped true b ≡ escapes (if v then Escaped else Broken)) × ((b == 10) ≡ false)
    go true e k = let v = visible_is b e in (refl, ap (λ u. not u && true) v.0, v.1)
    go false e k = absurd (broken_on bs k)
steps Escaped b bs h = go (in_class class.Visible b) refl h
  where
    space : (v : Bool) → (b == 32) ≡ v → goes_on (if v then Behind else Broken) bs ≡ true
        → (parts_words true b ≡ false) × (stays_escaped true b ≡ escapes (if v then Behind else Broken)) × ((b == 10) ≡ false)
    space true e k = subst (λ (n : ℕ). (parts_words true n ≡ false) × (stays_escaped true n ≡ false) × ((n == 10) ≡ false)) (sym (just_is b 32 e)) (refl, refl, refl)
    space false e k = absurd (broken_on bs k)

    go : (v : Bool) → in_class class.Visible b ≡ v → goes_on (if v then Escaped else if b == 32 then Behind else Broken) bs ≡ true
        → (parts_words true b ≡ false) × (stays_escaped true b ≡ escapes (if v then Escaped else if b == 32 then Behind else Broken)) × ((b == 10) ≡ false)
    go true e k = let v = visible_is b e in (refl, ap (λ u. not u && true) v.0, v.1)
    go false e k = space (b == 32) refl k
steps Behind b bs h = from_behind b bs h
steps Bracket b bs h = go (is_ascii_digit b) refl h
  where
    go : (v : Bool) → is_ascii_digit b ≡ v → goes_on (if v then Index else Broken) bs ≡ true
        → (parts_words false b ≡ false) × (stays_escaped false b ≡ escapes (if v then Index else Broken)) × ((b == 10) ≡ false)
    go true e k = plain b (digit_is b e)
    go false e k = absurd (broken_on bs k)
steps Index b bs h = go (is_ascii_digit b) refl h
  where
    closing : (v : Bool) → (b == 93) ≡ v → goes_on (if v then Closed else Broken) bs ≡ true
        → (parts_words false b ≡ false) × (stays_escaped false b ≡ escapes (if v then Closed else Broken)) × ((b == 10) ≡ false)
    closing true e k = subst (λ (n : ℕ). (parts_words false n ≡ false) × (stays_escaped false n ≡ false) × ((n == 10) ≡ false)) (sym (just_is b 93 e)) (refl, refl, refl)
    closing false e k = absurd (broken_on bs k)

    go : (v : Bool) → is_ascii_digit b ≡ v → goes_on (if v then Index else if b == 93 then Closed else Broken) bs ≡ true
        → (parts_words false b ≡ false) × (stays_escaped false b ≡ escapes (if v then Index else if b == 93 then Closed else Broken)) × ((b == 10) ≡ false)
    go true e k = plain b (digit_is b e)
    go false e k = closing (b == 93) refl k
steps Closed b bs h = absurd (closed_on b bs h)
steps Broken b bs h = absurd (broken_on (b ∷ bs) h)

-- where a name may end no space would be part of it
ends : (p : Part) → may_end p ≡ true → escapes p ≡ false
ends Begin h = cc
ends Plain h = refl
ends Slash h = cc
ends Escaped h = cc
ends Behind h = refl
ends Bracket h = cc
ends Index h = cc
ends Closed h = refl
ends Broken h = cc

one_on : (escaped next : Bool) (b : ℕ) (bs w : Text) (ws : List Text) → parts_words escaped b ≡ false → stays_escaped escaped b ≡ next → words_from next bs ≡ w ∷ ws
    → words_from escaped (b ∷ bs) ≡ (b ∷ w) ∷ ws
one_on escaped next b bs w ws none stays h =
    ap (λ (v : Bool). if v then [] ∷ words_from false bs else onto_word (b ∷ []) (words_from (stays_escaped escaped b) bs)) none
    ∙ (ap (λ (v : Bool). onto_word (b ∷ []) (words_from v bs)) stays ∙ ap (onto_word (b ∷ [])) h)

-- a name in front of a space is a word
in_front : (p : Part) (w rest : Text) → goes_on p w ≡ true → words_from (escapes p) (w ++ 32 ∷ rest) ≡ w ∷ words_from false rest
in_front p [] rest h = ap (λ (v : Bool). words_from v (32 ∷ rest)) (ends p h)
in_front p (b ∷ bs) rest h = let s = steps p b bs h in one_on (escapes p) (escapes (next_part p b)) b (bs ++ 32 ∷ rest) bs (words_from false rest) s.0 s.1 (in_front (next_part p b) bs rest h)

alone : (p : Part) (w : Text) → goes_on p w ≡ true → words_from (escapes p) w ≡ w ∷ []
alone p [] h = refl
alone p (b ∷ bs) h = let s = steps p b bs h in one_on (escapes p) (escapes (next_part p b)) b bs bs [] s.0 s.1 (alone (next_part p b) bs h)

pub name_in_front : (w rest : Text) → is_name w ≡ true → words_of (w ++ 32 ∷ rest) ≡ w ∷ words_of rest
name_in_front w rest h = in_front Begin w rest h

pub name_alone : (w : Text) → is_name w ≡ true → words_of w ≡ w ∷ []
name_alone w h = alone Begin w h

no_end : (p : Part) (w : Text) → goes_on p w ≡ true → HasNoEnd w
no_end p [] h = tt
no_end p (b ∷ bs) h = ((steps p b bs h).2, no_end (next_part p b) bs h)

pub name_has_no_end : (w : Text) → is_name w ≡ true → HasNoEnd w
name_has_no_end w h = no_end Begin w h
