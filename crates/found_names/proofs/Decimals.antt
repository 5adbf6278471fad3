-- Numbers that are near one another have decimals of their own.
use Rattle.std.proofs.Common.{◌≡◌, ◌∙◌, ℕ, zero, suc, ◌+◌, ◌/◌, ◌%◌, ◌<◌, ◌==◌, Bool, true, false, List, [], ◌∷◌, ◌++◌, length, refl, sym, ap, arith, append_assoc, eqb-true, lt-ltb, length-append, decimal}
use Rattle.std.specs.Prelude.{if◌then◌else◌}
use Rattle.std.specs.Fmt.{digit_glyph, digits, digits_onto}
use Rattle.std.proofs.lemmas.List.{same_from_push}

abbrev pub glyph : ℕ → ℕ
glyph d = digit_glyph false d

abbrev pub onto : ℕ → ℕ → List ℕ → List ℕ
onto k n acc = digits_onto k 10 false n acc

pub glyph-is : (d : ℕ) → d < 10 → glyph d ≡ 48 + d
glyph-is d h = ap (λ (v : Bool). if v then 48 + d else (if false then 55 + d else 87 + d)) (lt-ltb d 10 h)

same-digit : (m n : ℕ) → m < 10 → n < 10 → glyph m ≡ glyph n → m ≡ n
same-digit m n l k e = let a = glyph-is m l in let b = glyph-is n k in omega (arith, a, b, e)

-- what stands behind the digits stays behind them
onto-ends : (k n : ℕ) (acc : List ℕ) → (front : List ℕ) × (onto k n acc ≡ front ++ acc)
onto-ends zero n acc = ([], refl)
onto-ends (suc k) n acc = go (n / 10 == 0) (onto-ends k (n / 10) (glyph (n % 10) ∷ acc))
  where
    go : (v : Bool) → (front : List ℕ) × (onto k (n / 10) (glyph (n % 10) ∷ acc) ≡ front ++ (glyph (n % 10) ∷ acc))
        → (front : List ℕ) × ((if v then glyph (n % 10) ∷ acc else onto k (n / 10) (glyph (n % 10) ∷ acc)) ≡ front ++ acc)
    go true ih = (glyph (n % 10) ∷ [], refl)
    go false ih = (ih.0 ++ glyph (n % 10) ∷ [], ih.1 ∙ sym (append_assoc ih.0 (glyph (n % 10) ∷ []) acc))

-- a decimal is one digit, or ends in two
data Ends (n : ℕ) (text : List ℕ) : Type 0 where
  alone : n / 10 ≡ 0 → text ≡ glyph (n % 10) ∷ [] → Ends n text
  behind : (front : List ℕ) → text ≡ (front ++ glyph (n / 10 % 10) ∷ []) ++ glyph (n % 10) ∷ [] → Ends n text

ends : (n : ℕ) → Ends n (decimal n)
unfolding digits
ends n = go (n / 10 == 0) refl (second (n / 10 / 10 == 0))
  where
    tail : List ℕ
    tail = glyph (n % 10) ∷ []

    second : (v : Bool) → (front : List ℕ) × ((if v then glyph (n / 10 % 10) ∷ tail else onto 62 (n / 10 / 10) (glyph (n / 10 % 10) ∷ tail)) ≡ front ++ (glyph (n / 10 % 10) ∷ tail))
    second true = ([], refl)
    second false = onto-ends 62 (n / 10 / 10) (glyph (n / 10 % 10) ∷ tail)

    go : (v : Bool) → (n / 10 == 0) ≡ v → (front : List ℕ) × (onto 63 (n / 10) tail ≡ front ++ (glyph (n / 10 % 10) ∷ tail)) → Ends n (if v then tail else onto 63 (n / 10) tail)
    go true e p = alone (eqb-true (n / 10) 0 e) refl
    go false e p = behind p.0 (p.1 ∙ sym (append_assoc p.0 (glyph (n / 10 % 10) ∷ []) tail))

below-ten : (n : ℕ) → n % 10 < 10
below-ten n = omega arith

-- one digit isn't two
one-not-two : (x y z : ℕ) (front : List ℕ) → x ∷ [] ≡ (front ++ y ∷ []) ++ z ∷ [] → ⊥
one-not-two x y z front e =
    let l = ap length e in
    let m = length-append (front ++ y ∷ []) (z ∷ []) in
    let k = length-append front (y ∷ []) in
    omega (arith, l, m, k)

pub near-same : (m n : ℕ) → m < n + 64 → n < m + 64 → decimal m ≡ decimal n → m ≡ n
near-same m n less more e = go (decimal m) (decimal n) e (ends m) (ends n)
  where
    go : (t u : List ℕ) → t ≡ u → Ends m t → Ends n u → m ≡ n
    go t u e (alone zm tm) (alone zn un) =
        let d = same-digit (m % 10) (n % 10) (below-ten m) (below-ten n) (same_from_push [] [] (glyph (m % 10)) (glyph (n % 10)) (sym tm ∙ e ∙ un)).1 in
        omega (arith, zm, zn, d)
    go t u e (alone zm tm) (behind front un) = absurd (one-not-two (glyph (m % 10)) (glyph (n / 10 % 10)) (glyph (n % 10)) front (sym tm ∙ e ∙ un))
    go t u e (behind front tm) (alone zn un) = absurd (one-not-two (glyph (n % 10)) (glyph (m / 10 % 10)) (glyph (m % 10)) front (sym un ∙ sym e ∙ tm))
    go t u e (behind front tm) (behind other un) =
        let last = same_from_push (front ++ glyph (m / 10 % 10) ∷ []) (other ++ glyph (n / 10 % 10) ∷ []) (glyph (m % 10)) (glyph (n % 10)) (sym tm ∙ e ∙ un) in
        let next = same_from_push front other (glyph (m / 10 % 10)) (glyph (n / 10 % 10)) last.0 in
        let d = same-digit (m % 10) (n % 10) (below-ten m) (below-ten n) last.1 in
        let c = same-digit (m / 10 % 10) (n / 10 % 10) (below-ten (m / 10)) (below-ten (n / 10)) next.1 in
        omega (arith, c, d, less, more)
