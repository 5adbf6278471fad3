-- Printed names have the form of names in certificates, and none of them is the word `end`.
use Rattle.std.proofs.Common.{◌≡◌, ◌≢◌, ◌∙◌, ℕ, zero, suc, ◌/◌, ◌%◌, ◌<◌, ◌==◌, Bool, true, false, cond, not, ◌&&◌, List, [], ◌∷◌, ◌++◌, inl, inr, refl, sym, ap, ap₂, append_assoc, arith, rules, bytes_eq, codes, decimal, is_none}
use Rattle.std.specs.Prelude.{if◌then◌else◌}
use Rattle.std.specs.Char.{is_ascii_digit}
use Rattle.std.specs.Fmt.{digits}
use Rattle.std.specs.List.{list_all}
use Rattle.std.proofs.lemmas.Bool.{and_parts, both_ways}
use Rattle.std.proofs.lemmas.Bool.Decides.{nat_tests}
use Rattle.std.proofs.lemmas.Slice.Eq.{bytes_eq-Decides}
use Rattle.cdc_base.specs.declared.bytes.Class.TheVariants.{Visible, Word}
use Rattle.cdc_base.specs.declared.signal.Signal.{Signal}
use Rattle.cdc_base.specs.Bits.{bit_ending, bit_text, index_of}
use Rattle.cdc_base.specs.Bytes.{front, in_class, is_word_start}
use Rattle.cdc_base.specs.Words.{is_identifier, is_left_out, is_simple, keyword_of}
use Rattle.flat_unfolding.specs.Names.{printed_part}
use Rattle.flat_unfolding.specs.Outcome.{Text}
use Rattle.signal_names.specs.Paths.{IsPrinted, is_visible, path_text, prefix_text}
use Rattle.found_names.proofs.Decimals.{glyph, glyph-is, onto}
use Rattle.found_names.proofs.Parts.{Stops}
use Rattle.cert_text.specs.Names.{behind_part, goes_on, is_name, next_part}
use Rattle.cert_text.specs.Read.{is_bit_name}

-- ---- indices

-- some bytes, each of them a digit
abbrev are_digits : Text → Bool
are_digits [] = false
are_digits (b ∷ bs) = list_all is_ascii_digit (b ∷ bs)

digit-is : (d : ℕ) → d < 10 → is_ascii_digit (glyph d) ≡ true
digit-is d l = let e = glyph-is d l in grind (arith, nat_tests, e)

onto-digits : (k n b : ℕ) (bs : Text) → list_all is_ascii_digit (b ∷ bs) ≡ true → are_digits (onto k n (b ∷ bs)) ≡ true
onto-digits zero n b bs h = h
onto-digits (suc k) n b bs h =
    let more = ap₂ (λ u v. u && v) (digit-is (n % 10) (let l : n % 10 < 10 = omega arith in l)) h in
    go (n / 10 == 0) more (onto-digits k (n / 10) (glyph (n % 10)) (b ∷ bs) more)
  where
    go : (v : Bool) → list_all is_ascii_digit (glyph (n % 10) ∷ b ∷ bs) ≡ true → are_digits (onto k (n / 10) (glyph (n % 10) ∷ b ∷ bs)) ≡ true
        → are_digits (if v then glyph (n % 10) ∷ b ∷ bs else onto k (n / 10) (glyph (n % 10) ∷ b ∷ bs)) ≡ true
    go true e f = e
    go false e f = f

decimal-digits : (n : ℕ) → are_digits (decimal n) ≡ true
unfolding digits
decimal-digits n =
    let one = ap (λ u. u && true) (digit-is (n % 10) (let l : n % 10 < 10 = omega arith in l)) in
    go (n / 10 == 0) one (onto-digits 63 (n / 10) (glyph (n % 10)) [] one)
  where
    go : (v : Bool) → list_all is_ascii_digit (glyph (n % 10) ∷ []) ≡ true → are_digits (onto 63 (n / 10) (glyph (n % 10) ∷ [])) ≡ true
        → are_digits (if v then glyph (n % 10) ∷ [] else onto 63 (n / 10) (glyph (n % 10) ∷ [])) ≡ true
    go true e f = e
    go false e f = f

-- ---- the form of a name

-- The parts of a name, by a byte that leads to each of them: at its begin, in a plain part, behind a backslash, in an escaped part, behind its space, behind
-- a bracket, and in an index.
abbrev from_begin : Text → Bool
from_begin r = goes_on (behind_part 46) r

abbrev from_plain : Text → Bool
from_plain r = goes_on (next_part (behind_part 46) 95) r

abbrev from_slash : Text → Bool
from_slash r = goes_on (next_part (behind_part 46) 92) r

abbrev from_escaped : Text → Bool
from_escaped r = goes_on (next_part (next_part (behind_part 46) 92) 33) r

abbrev from_behind : Text → Bool
from_behind r = goes_on (next_part (next_part (next_part (behind_part 46) 92) 33) 32) r

abbrev from_bracket : Text → Bool
from_bracket r = goes_on (behind_part 91) r

abbrev from_index : Text → Bool
from_index r = goes_on (next_part (behind_part 91) 48) r

-- what may stand behind a part: nothing, an index, or what a dot begins
pub record IsTail (r : Text) : Type 0 where
  pub behind_plain : from_plain r ≡ true
  pub behind_escaped : from_behind r ≡ true
  pub stops : Stops (in_class Word) r

on-index : (bs : Text) → list_all is_ascii_digit bs ≡ true → from_index (bs ++ codes "]") ≡ true
on-index [] h = refl
on-index (b ∷ bs) h =
    let p = and_parts (is_ascii_digit b) (list_all is_ascii_digit bs) h in
    ap (λ (v : Bool). goes_on (if v then next_part (behind_part 91) 48 else if b == 93 then next_part (next_part (behind_part 91) 48) 93 else behind_part 0) (bs ++ codes "]")) p.0 ∙ on-index bs p.1

on-bracket : (ds : Text) → are_digits ds ≡ true → from_bracket (ds ++ codes "]") ≡ true
on-bracket [] h = absurd (search (rules, h))
on-bracket (b ∷ bs) h =
    let p = and_parts (is_ascii_digit b) (list_all is_ascii_digit bs) h in
    ap (λ (v : Bool). goes_on (if v then next_part (behind_part 91) 48 else behind_part 0) (bs ++ codes "]")) p.0 ∙ on-index bs p.1

nothing-behind : IsTail []
nothing-behind = record { behind_plain = refl; behind_escaped = refl; stops = inl refl }

index-behind : (n : ℕ) → IsTail (91 ∷ (decimal n ++ codes "]"))
index-behind n =
    let on = on-bracket (decimal n) (decimal-digits n) in
    record { behind_plain = on; behind_escaped = on; stops = inr (91, decimal n ++ codes "]", refl, refl) }

dot-behind : (t : Text) → from_begin t ≡ true → IsTail (46 ∷ t)
dot-behind t h = record { behind_plain = h; behind_escaped = h; stops = inr (46, t, refl, refl) }

ending-behind : (s : Signal) (i : ℕ) → IsTail (bit_ending s i)
ending-behind s i = go s.ranged
  where
    go : (v : Bool) → IsTail (if v then codes "[" ++ decimal (index_of s i) ++ codes "]" else [])
    go true = index-behind (index_of s i)
    go false = nothing-behind

on-word : (bs r : Text) → list_all (in_class Word) bs ≡ true → from_plain r ≡ true → from_plain (bs ++ r) ≡ true
on-word [] r h k = k
on-word (b ∷ bs) r h k =
    let p = and_parts (in_class Word b) (list_all (in_class Word) bs) h in
    ap (λ (v : Bool). goes_on (if v then next_part (behind_part 46) 95 else behind_part b) (bs ++ r)) p.0 ∙ on-word bs r p.1 k

on-escaped : (bs r : Text) → list_all (in_class Visible) bs ≡ true → from_behind r ≡ true → from_escaped (bs ++ (32 ∷ r)) ≡ true
on-escaped [] r h k = k
on-escaped (b ∷ bs) r h k =
    let p = and_parts (in_class Visible b) (list_all (in_class Visible) bs) h in
    ap (λ (v : Bool). goes_on (if v then next_part (next_part (behind_part 46) 92) 33 else if b == 32 then next_part (next_part (next_part (behind_part 46) 92) 33) 32 else behind_part 0) (bs ++ (32 ∷ r))) p.0 ∙ on-escaped bs r p.1 k

on-slash : (x r : Text) → is_visible x ≡ true → from_behind r ≡ true → from_slash (x ++ (32 ∷ r)) ≡ true
on-slash [] r h k = absurd (search (rules, h))
on-slash (b ∷ bs) r h k =
    let p = and_parts (in_class Visible b) (list_all (in_class Visible) bs) h in
    ap (λ (v : Bool). goes_on (if v then next_part (next_part (behind_part 46) 92) 33 else behind_part 0) (bs ++ (32 ∷ r))) p.0 ∙ on-escaped bs r p.1 k

identifier-of : (x : Text) → is_simple x ≡ true → is_identifier x ≡ true
identifier-of x h = (and_parts (is_identifier x) (is_none (keyword_of x)) (and_parts (is_identifier x && is_none (keyword_of x)) (not (is_left_out x)) h).0).0

on-identifier : (x r : Text) → is_identifier x ≡ true → is_visible x ≡ true → from_plain r ≡ true → from_begin (x ++ r) ≡ true
on-identifier [] r h v k = absurd (search (rules, v))
on-identifier (b ∷ bs) r h v k =
    let p = and_parts (is_word_start b) (list_all (in_class Word) (b ∷ bs)) h in
    let q = and_parts (in_class Word b) (list_all (in_class Word) bs) p.1 in
    ap (λ (v : Bool). goes_on (if v then next_part (behind_part 46) 95 else if b == 92 then next_part (behind_part 46) 92 else behind_part 0) (bs ++ r)) p.0 ∙ on-word bs r q.1 k

on-part : (x r : Text) → is_visible x ≡ true → IsTail r → from_begin (printed_part x ++ r) ≡ true
on-part x r v tail = go (is_simple x) refl
  where
    go : (w : Bool) → is_simple x ≡ w → from_begin (cond w x (92 ∷ x ++ (32 ∷ [])) ++ r) ≡ true
    go true e = on-identifier x r (identifier-of x e) v tail.behind_plain
    go false e = ap from_slash (append_assoc x (32 ∷ []) r) ∙ on-slash x r v tail.behind_escaped

after-dot : (a : Text) (p : List Text) (x r : Text) → path_text (a ∷ p) x ++ r ≡ printed_part a ++ (46 ∷ (path_text p x ++ r))
after-dot a p x r =
    ap (λ (t : Text). t ++ r) (append_assoc (printed_part a ++ codes ".") (prefix_text p) (printed_part x) ∙ append_assoc (printed_part a) (codes ".") (path_text p x))
    ∙ append_assoc (printed_part a) (46 ∷ path_text p x) r

on-path : (p : List Text) (x r : Text) → list_all is_visible p ≡ true → is_visible x ≡ true → IsTail r → from_begin (path_text p x ++ r) ≡ true
on-path [] x r vp v tail = on-part x r v tail
on-path (a ∷ p) x r vp v tail =
    let q = and_parts (is_visible a) (list_all is_visible p) vp in
    ap from_begin (after-dot a p x r) ∙ on-part a (46 ∷ (path_text p x ++ r)) q.0 (dot-behind (path_text p x ++ r) (on-path p x r q.1 v tail))

-- ---- the word `end`

stopped : (b : ℕ) (t r : Text) → in_class Word b ≡ true → Stops (in_class Word) r → r ≢ b ∷ t
stopped b t r h (inl n) e = let f = sym n ∙ e in search (rules, f)
stopped b t r h (inr (c, u, is, out)) e =
    let f : c ∷ u ≡ b ∷ t = sym is ∙ e in
    let g : c ≡ b = search (rules, f) in
    both_ways (in_class Word c) out (ap (in_class Word) g ∙ h)

end-is-word : is_simple (codes "end") ≡ false
unfolding keyword_of
end-is-word = refl

simple-no-end : (x r : Text) → is_simple x ≡ true → is_visible x ≡ true → Stops (in_class Word) r → x ++ r ≢ codes "end"
simple-no-end [] r h v s e = search (rules, v)
simple-no-end (a ∷ []) r h v s e = stopped 110 (codes "d") r refl s (cc)
simple-no-end (a ∷ b ∷ []) r h v s e = stopped 100 [] r refl s (cc)
simple-no-end (a ∷ b ∷ c ∷ []) r h v s e =
    let same : a ∷ b ∷ c ∷ [] ≡ codes "end" = cc in
    both_ways (is_simple (codes "end")) end-is-word (ap is_simple (sym same) ∙ h)
simple-no-end (a ∷ b ∷ c ∷ d ∷ x) r h v s e = cc

slash-no-end : (t : Text) → 92 ∷ t ≢ codes "end"
slash-no-end t e = let h : front (92 ∷ t) ≡ front (codes "end") = ap front e in omega (arith, h)

part-no-end : (x r : Text) → is_visible x ≡ true → Stops (in_class Word) r → printed_part x ++ r ≢ codes "end"
part-no-end x r v s = go (is_simple x) refl
  where
    go : (w : Bool) → is_simple x ≡ w → cond w x (92 ∷ x ++ (32 ∷ [])) ++ r ≢ codes "end"
    go true e f = simple-no-end x r e v s f
    go false e f = slash-no-end (x ++ (32 ∷ r)) (sym (ap (λ (t : Text). 92 ∷ t) (append_assoc x (32 ∷ []) r)) ∙ f)

path-no-end : (p : List Text) (x r : Text) → list_all is_visible p ≡ true → is_visible x ≡ true → Stops (in_class Word) r → path_text p x ++ r ≢ codes "end"
path-no-end [] x r vp v s e = part-no-end x r v s e
path-no-end (a ∷ p) x r vp v s e =
    part-no-end a (46 ∷ (path_text p x ++ r)) (and_parts (is_visible a) (list_all is_visible p) vp).0 (inr (46, path_text p x ++ r, refl, refl)) (sym (after-dot a p x r) ∙ e)

differs : (t u : Text) → t ≢ u → bytes_eq t u ≡ false
differs t u ne = go (bytes_eq t u) refl
  where
    go : (v : Bool) → bytes_eq t u ≡ v → bytes_eq t u ≡ false
    go true e = absurd (ne (search (rules, bytes_eq-Decides)))
    go false e = e

-- ---- names of signals and bits

behind-nothing : (t : Text) → t ≡ t ++ []
behind-nothing [] = refl
behind-nothing (b ∷ bs) = ap (λ (t : Text). b ∷ t) (behind-nothing bs)

pub signal-name : (t : Text) → IsPrinted [] t → is_name t ≡ true
signal-name t p = ap is_name (p.is ∙ behind-nothing (path_text p.path p.own)) ∙ on-path p.path p.own [] p.visible_path p.visible nothing-behind

pub bit-name : (s : Signal) (i : ℕ) → IsPrinted [] s.name → is_bit_name (bit_text s i) ≡ true
bit-name s i p =
    let tail = ending-behind s i in
    let is : bit_text s i ≡ path_text p.path p.own ++ bit_ending s i = ap (λ (t : Text). t ++ bit_ending s i) p.is in
    ap₂ (λ (u v : Bool). u && not v) (ap is_name is ∙ on-path p.path p.own (bit_ending s i) p.visible_path p.visible tail)
    (differs (bit_text s i) (codes "end") (λ e. path-no-end p.path p.own (bit_ending s i) p.visible_path p.visible tail.stops (sym is ∙ e)))
