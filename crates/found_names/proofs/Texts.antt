-- Printed names are ASCII.
use Rattle.std.proofs.Common.{◌≡◌, ◌∙◌, ℕ, zero, suc, ◌/◌, ◌%◌, ◌<◌, ◌==◌, nat_le, nat_lt, Bool, true, false, cond, ◌&&◌, List, [], ◌∷◌, ◌++◌, IsUtf8, refl, ap, ap₂, arith, lt-ltb, codes, decimal}
use Rattle.std.specs.Prelude.{if◌then◌else◌}
use Rattle.std.specs.Fmt.{digits}
use Rattle.std.specs.List.{list_all}
use Rattle.std.proofs.lemmas.Bool.{and_parts}
use Rattle.std.proofs.lemmas.Bool.Decides.{nat_tests}
use Rattle.json.proofs.Printed.Utf8.{are_ascii, IsUtf8-are_ascii}
use Rattle.cdc_base.specs.declared.signal.Signal.{Signal}
use Rattle.cdc_base.specs.Bits.{bit_ending, bit_text, index_of}
use Rattle.cdc_base.specs.Bytes.{in_class}
use Rattle.cdc_base.specs.declared.bytes.Class.TheVariants.{Visible}
use Rattle.cdc_base.specs.Words.{is_simple}
use Rattle.flat_unfolding.specs.Outcome.{Text}
use Rattle.flat_unfolding.specs.Names.{printed_part}
use Rattle.signal_names.specs.Paths.{IsPrinted, is_visible, prefix_text}
use Rattle.found_names.proofs.Decimals.{glyph, glyph-is, onto}

ascii-both : (xs ys : List ℕ) → are_ascii xs ≡ true → are_ascii ys ≡ true → are_ascii (xs ++ ys) ≡ true
ascii-both [] ys h k = k
ascii-both (x ∷ xs) ys h k = let p = and_parts (nat_lt x 128) (are_ascii xs) h in ap₂ (λ a b. a && b) p.0 (ascii-both xs ys p.1 k)

-- ---- numbers

digit-ascii : (n : ℕ) → nat_lt (glyph (n % 10)) 128 ≡ true
digit-ascii n = let e = glyph-is (n % 10) (let l : n % 10 < 10 = omega arith in l) in lt-ltb (glyph (n % 10)) 128 (let l : n % 10 < 10 = omega arith in omega (arith, e, l))

onto-ascii : (k n : ℕ) (acc : List ℕ) → are_ascii acc ≡ true → are_ascii (onto k n acc) ≡ true
onto-ascii zero n acc h = h
onto-ascii (suc k) n acc h =
    let more = ap₂ (λ a b. a && b) (digit-ascii n) h in
    go (n / 10 == 0) more (onto-ascii k (n / 10) (glyph (n % 10) ∷ acc) more)
  where
    go : (v : Bool) → are_ascii (glyph (n % 10) ∷ acc) ≡ true → are_ascii (onto k (n / 10) (glyph (n % 10) ∷ acc)) ≡ true
        → are_ascii (if v then glyph (n % 10) ∷ acc else onto k (n / 10) (glyph (n % 10) ∷ acc)) ≡ true
    go true e f = e
    go false e f = f

decimal-ascii : (n : ℕ) → are_ascii (decimal n) ≡ true
unfolding digits
decimal-ascii n = onto-ascii 64 n [] refl

-- ---- names

visible-below : (b : ℕ) → in_class Visible b ≡ true → nat_lt b 128 ≡ true
visible-below b h = let e = (and_parts (nat_le 33 b) (nat_le b 126) h).1 in grind (arith, nat_tests)

bytes-ascii : (bs : List ℕ) → list_all (in_class Visible) bs ≡ true → are_ascii bs ≡ true
bytes-ascii [] h = refl
bytes-ascii (b ∷ bs) h = let p = and_parts (in_class Visible b) (list_all (in_class Visible) bs) h in ap₂ (λ a c. a && c) (visible-below b p.0) (bytes-ascii bs p.1)

name-ascii : (x : Text) → is_visible x ≡ true → are_ascii x ≡ true
name-ascii [] h = refl
name-ascii (b ∷ bs) h = bytes-ascii (b ∷ bs) h

part-ascii : (x : Text) → is_visible x ≡ true → are_ascii (printed_part x) ≡ true
part-ascii x h = go (is_simple x)
  where
    go : (v : Bool) → are_ascii (cond v x (92 ∷ x ++ (32 ∷ []))) ≡ true
    go true = name-ascii x h
    go false = ascii-both x (32 ∷ []) (name-ascii x h) refl

prefix-ascii : (p : List Text) → list_all is_visible p ≡ true → are_ascii (prefix_text p) ≡ true
prefix-ascii [] h = refl
prefix-ascii (x ∷ p) h =
    let q = and_parts (is_visible x) (list_all is_visible p) h in
    ascii-both (printed_part x ++ codes ".") (prefix_text p) (ascii-both (printed_part x) (codes ".") (part-ascii x q.0) refl) (prefix-ascii p q.1)

printed-ascii : (t : Text) → IsPrinted [] t → are_ascii t ≡ true
printed-ascii t p = ap are_ascii p.is ∙ ascii-both (prefix_text p.path) (printed_part p.own) (prefix-ascii p.path p.visible_path) (part-ascii p.own p.visible)

pub printed-text : (t : Text) → IsPrinted [] t → IsUtf8 t
printed-text t p = IsUtf8-are_ascii t (printed-ascii t p)

pub bit-is-text : (s : Signal) (i : ℕ) → IsPrinted [] s.name → IsUtf8 (bit_text s i)
bit-is-text s i p = IsUtf8-are_ascii (bit_text s i) (ascii-both s.name (bit_ending s i) (printed-ascii s.name p) (go s.ranged))
  where
    go : (v : Bool) → are_ascii (if v then codes "[" ++ decimal (index_of s i) ++ codes "]" else []) ≡ true
    go true = ascii-both (decimal (index_of s i)) (codes "]") (decimal-ascii (index_of s i)) refl
    go false = refl
