-- What the masks of words show of their bits, rule by rule.
use Rattle.std.proofs.Common.{◌≡◌, ◌∙◌, sym, ap, ap₂, subst, refl, arith, ℕ, zero, suc, ◌+◌, ◌-◌, ◌*◌, ◌/◌, ◌%◌, ◌^◌, ◌<◌, ◌≤◌, ◌==◌, min, Bool, true, false, cond, not, ◌&&◌, ◌||◌, nat_lt, Option, Some, None, is_some, option_map, lt-ltb}
use Rattle.std.specs.Prelude.{bit_and, bit_or, bit_xor, count_ones}
use Rattle.std.proofs.lemmas.Nat.{pow_pos, and_le_l, and_le_r, and_mask, or_comm, or_shifted}
use Rattle.std.proofs.Math.Nat.{mod-eq_of_lt, mod-lt, pow-suc}
use Rattle.std.proofs.Math.Pow.{pow_mono}
use Rattle.cell_graph.specs.Tree.{bit_at, number, all_below, any_below, odd_below}
use Rattle.cell_graph.specs.Cofactor.{known_and, known_or, known_xor, agreed, known_plus, known_number, on_number, on_numbers, known_all, known_any, known_odd}
use Rattle.cell_graph.proofs.Words.{HasBits, number-has, has-number, has-same, has-64, bit_and-bit, bit_or-bit, bit-not, bit-low, bit-up, bit-ones, and-has, or-has, xor-has, add-has, sub-has, down-has, slice-has, wider-has, joined-has, any-bit, all-bits, odd-bits, number-lt}
use Rattle.cofactor.specs.declared.masks.Masks.{Masks}
use Rattle.cofactor.specs.Masks.{is_one, masks_of}

-- ---- masks and their bits

abbrev pub some : (ℕ → Option Bool) → ℕ → Bool
some k i = is_some (k i)

abbrev pub one : (ℕ → Option Bool) → ℕ → Bool
one k i = is_one (k i)

pub known-of : (m : Masks) (k : ℕ → Option Bool) (w : ℕ) → m ≡ masks_of k w → HasBits m.known (some k) w
known-of m k w e = subst (λ (n : Masks). HasBits n.known (some k) w) (sym e) (number-has (some k) w)

pub value-of : (m : Masks) (k : ℕ → Option Bool) (w : ℕ) → m ≡ masks_of k w → HasBits m.value (one k) w
value-of m k w e = subst (λ (n : Masks). HasBits n.value (one k) w) (sym e) (number-has (one k) w)

pub made : (x y : ℕ) (k : ℕ → Option Bool) (w : ℕ) → HasBits x (some k) w → HasBits y (one k) w → ◌≡◌ {A = Masks} (record { known = x; value = y }) (masks_of k w)
made x y k w h l = ap₂ (λ (p q : ℕ). let m : Masks = record { known = p; value = q } in m) (has-number h) (has-number l)

-- the same row gives the same masks
pub masks-same : (k l : ℕ → Option Bool) (w : ℕ) → ((i : ℕ) → i < w → k i ≡ l i) → masks_of k w ≡ masks_of l w
masks-same k l w each = made (masks_of k w).known (masks_of k w).value l w
    (has-same (number-has (some k) w) (λ i h. ap is_some (each i h))) (has-same (number-has (one k) w) (λ i h. ap is_one (each i h)))

pub mask-is : (m w : ℕ) → w ≤ 64 → m ≡ 2 ^ min w 64 - 1 → m ≡ 2 ^ w - 1
mask-is m w h e = e ∙ ap (λ n. 2 ^ n - 1) (let f : min w 64 ≡ w = omega arith in f)

ones-has : (w : ℕ) → HasBits (2 ^ w - 1) (λ i. true) w
ones-has w = record { lt = let p = pow_pos w in omega arith; each = λ i l. bit-ones w i ∙ lt-ltb i w l }

-- a word kept where a mask has ones
and-first : (f g : ℕ → Bool) (w u v : ℕ) → HasBits u f w → ((i : ℕ) → i < w → bit_at v i ≡ g i) → HasBits (bit_and u v) (λ i. f i && g i) w
and-first f g w u v h each = record { lt = let a = and_le_l u v in let b = h.lt in omega arith; each = λ i l. bit_and-bit u v i ∙ ap₂ (λ x y. x && y) (h.each i l) (each i l) }

and-second : (f g : ℕ → Bool) (w u v : ℕ) → ((i : ℕ) → i < w → bit_at u i ≡ f i) → HasBits v g w → HasBits (bit_and u v) (λ i. f i && g i) w
and-second f g w u v each h = record { lt = let a = and_le_r u v in let b = h.lt in omega arith; each = λ i l. bit_and-bit u v i ∙ ap₂ (λ x y. x && y) (each i l) (h.each i l) }

not-bit : (f : ℕ → Bool) (w v : ℕ) → w ≤ 64 → HasBits v f w → (i : ℕ) → i < w → bit_at (2 ^ 64 - 1 - v) i ≡ not (f i)
not-bit f w v small h i l = bit-not v i (has-64 h small) (omega arith) ∙ ap not (h.each i l)

-- the bits that are known to be 0
zeros-has : (k : ℕ → Option Bool) (w x v : ℕ) → w ≤ 64 → HasBits x (some k) w → HasBits v (one k) w → HasBits (bit_and x (2 ^ 64 - 1 - v)) (λ i. some k i && not (one k i)) w
zeros-has k w x v small h l = and-first (some k) (λ i. not (one k i)) w x (2 ^ 64 - 1 - v) h (not-bit (one k) w v small l)

-- ---- single bits

and_true : (b : Bool) → (b && true) ≡ b
and_true true = refl
and_true false = refl

or_false : (b : Bool) → (b || false) ≡ b
or_false true = refl
or_false false = refl

and_turned : (a b : Bool) → (a && b) ≡ (b && a)
and_turned true true = refl
and_turned true false = refl
and_turned false true = refl
and_turned false false = refl

not_some : (o : Option Bool) → is_some o ≡ is_some (option_map not o)
not_some None = refl
not_some (Some v) = refl

not_one : (o : Option Bool) → (is_some o && not (is_one o)) ≡ is_one (option_map not o)
not_one None = refl
not_one (Some v) = refl

and_some : (o p : Option Bool) → (((is_some o && not (is_one o)) || (is_some p && not (is_one p))) || (is_one o && is_one p)) ≡ is_some (known_and o p)
and_some None None = refl
and_some None (Some true) = refl
and_some None (Some false) = refl
and_some (Some true) None = refl
and_some (Some true) (Some true) = refl
and_some (Some true) (Some false) = refl
and_some (Some false) None = refl
and_some (Some false) (Some true) = refl
and_some (Some false) (Some false) = refl

and_one : (o p : Option Bool) → (is_one o && is_one p) ≡ is_one (known_and o p)
and_one None None = refl
and_one None (Some true) = refl
and_one None (Some false) = refl
and_one (Some true) None = refl
and_one (Some true) (Some v) = refl
and_one (Some false) p = refl

or_some : (o p : Option Bool) → ((is_one o || is_one p) || ((is_some o && not (is_one o)) && (is_some p && not (is_one p)))) ≡ is_some (known_or o p)
or_some None None = refl
or_some None (Some true) = refl
or_some None (Some false) = refl
or_some (Some true) None = refl
or_some (Some true) (Some v) = refl
or_some (Some false) None = refl
or_some (Some false) (Some true) = refl
or_some (Some false) (Some false) = refl

or_one : (o p : Option Bool) → (is_one o || is_one p) ≡ is_one (known_or o p)
or_one None None = refl
or_one None (Some true) = refl
or_one None (Some false) = refl
or_one (Some true) None = refl
or_one (Some true) (Some v) = refl
or_one (Some false) None = refl
or_one (Some false) (Some v) = refl

xor_some : (o p : Option Bool) → (is_some o && is_some p) ≡ is_some (known_xor o p)
xor_some None p = refl
xor_some (Some v) None = refl
xor_some (Some v) (Some w) = refl

xor_one : (o p : Option Bool) → (cond (is_one o) (not (is_one p)) (is_one p) && (is_some o && is_some p)) ≡ is_one (known_xor o p)
xor_one None None = refl
xor_one None (Some true) = refl
xor_one None (Some false) = refl
xor_one (Some true) None = refl
xor_one (Some false) None = refl
xor_one (Some true) (Some true) = refl
xor_one (Some true) (Some false) = refl
xor_one (Some false) (Some true) = refl
xor_one (Some false) (Some false) = refl

agreed_some : (o p : Option Bool) → ((is_some o && is_some p) && not (cond (is_one o) (not (is_one p)) (is_one p))) ≡ is_some (agreed o p)
agreed_some None p = refl
agreed_some (Some true) None = refl
agreed_some (Some false) None = refl
agreed_some (Some true) (Some true) = refl
agreed_some (Some true) (Some false) = refl
agreed_some (Some false) (Some true) = refl
agreed_some (Some false) (Some false) = refl

agreed_one : (o p : Option Bool) → (is_one o && ((is_some o && is_some p) && not (cond (is_one o) (not (is_one p)) (is_one p)))) ≡ is_one (agreed o p)
agreed_one None p = refl
agreed_one (Some true) None = refl
agreed_one (Some false) None = refl
agreed_one (Some true) (Some true) = refl
agreed_one (Some true) (Some false) = refl
agreed_one (Some false) (Some true) = refl
agreed_one (Some false) (Some false) = refl

cond_some : (b : Bool) (o p : Option Bool) → cond b (is_some o) (is_some p) ≡ is_some (cond b o p)
cond_some true o p = refl
cond_some false o p = refl

cond_one : (b : Bool) (o p : Option Bool) → cond b (is_one o) (is_one p) ≡ is_one (cond b o p)
cond_one true o p = refl
cond_one false o p = refl

-- ---- bit by bit

module _ (k : ℕ → Option Bool) (w : ℕ) (a : Masks) (small : w ≤ 64) (e : a ≡ masks_of k w) where
  ka : HasBits a.known (some k) w
  ka = known-of a k w e

  va : HasBits a.value (one k) w
  va = value-of a k w e

  pub not-shown : ◌≡◌ {A = Masks} (record { known = a.known; value = bit_and a.known (2 ^ 64 - 1 - a.value) }) (masks_of (λ i. option_map not (k i)) w)
  not-shown = made a.known (bit_and a.known (2 ^ 64 - 1 - a.value)) (λ i. option_map not (k i)) w
      (has-same ka (λ i l. not_some (k i))) (has-same (zeros-has k w a.known a.value small ka va) (λ i l. not_one (k i)))

module _ (k l : ℕ → Option Bool) (w : ℕ) (a b : Masks) (small : w ≤ 64) (e : a ≡ masks_of k w) (f : b ≡ masks_of l w) where
  za : HasBits (bit_and a.known (2 ^ 64 - 1 - a.value)) (λ i. some k i && not (one k i)) w
  za = zeros-has k w a.known a.value small (known-of a k w e) (value-of a k w e)

  zb : HasBits (bit_and b.known (2 ^ 64 - 1 - b.value)) (λ i. some l i && not (one l i)) w
  zb = zeros-has l w b.known b.value small (known-of b l w f) (value-of b l w f)

  both-ones : HasBits (bit_and a.value b.value) (λ i. one k i && one l i) w
  both-ones = and-has (one k) (one l) w a.value b.value (value-of a k w e) (value-of b l w f)

  any-ones : HasBits (bit_or a.value b.value) (λ i. one k i || one l i) w
  any-ones = or-has (one k) (one l) w a.value b.value (value-of a k w e) (value-of b l w f)

  both-known : HasBits (bit_and a.known b.known) (λ i. some k i && some l i) w
  both-known = and-has (some k) (some l) w a.known b.known (known-of a k w e) (known-of b l w f)

  differ : HasBits (bit_xor a.value b.value) (λ i. cond (one k i) (not (one l i)) (one l i)) w
  differ = xor-has (one k) (one l) w a.value b.value (value-of a k w e) (value-of b l w f)

  pub and-shown : ◌≡◌ {A = Masks} (record { known = bit_or (bit_or (bit_and a.known (2 ^ 64 - 1 - a.value)) (bit_and b.known (2 ^ 64 - 1 - b.value))) (bit_and a.value b.value); value = bit_and a.value b.value })
      (masks_of (λ i. known_and (k i) (l i)) w)
  and-shown = made (bit_or (bit_or (bit_and a.known (2 ^ 64 - 1 - a.value)) (bit_and b.known (2 ^ 64 - 1 - b.value))) (bit_and a.value b.value)) (bit_and a.value b.value) (λ i. known_and (k i) (l i)) w
      (has-same (or-has (λ i. (some k i && not (one k i)) || (some l i && not (one l i))) (λ i. one k i && one l i) w (bit_or (bit_and a.known (2 ^ 64 - 1 - a.value)) (bit_and b.known (2 ^ 64 - 1 - b.value))) (bit_and a.value b.value)
      (or-has (λ i. some k i && not (one k i)) (λ i. some l i && not (one l i)) w (bit_and a.known (2 ^ 64 - 1 - a.value)) (bit_and b.known (2 ^ 64 - 1 - b.value)) za zb) both-ones) (λ i h. and_some (k i) (l i)))
      (has-same both-ones (λ i h. and_one (k i) (l i)))

  pub or-shown : ◌≡◌ {A = Masks} (record { known = bit_or (bit_or a.value b.value) (bit_and (bit_and a.known (2 ^ 64 - 1 - a.value)) (bit_and b.known (2 ^ 64 - 1 - b.value))); value = bit_or a.value b.value })
      (masks_of (λ i. known_or (k i) (l i)) w)
  or-shown = made (bit_or (bit_or a.value b.value) (bit_and (bit_and a.known (2 ^ 64 - 1 - a.value)) (bit_and b.known (2 ^ 64 - 1 - b.value)))) (bit_or a.value b.value) (λ i. known_or (k i) (l i)) w
      (has-same (or-has (λ i. one k i || one l i) (λ i. (some k i && not (one k i)) && (some l i && not (one l i))) w (bit_or a.value b.value) (bit_and (bit_and a.known (2 ^ 64 - 1 - a.value)) (bit_and b.known (2 ^ 64 - 1 - b.value)))
      any-ones (and-has (λ i. some k i && not (one k i)) (λ i. some l i && not (one l i)) w (bit_and a.known (2 ^ 64 - 1 - a.value)) (bit_and b.known (2 ^ 64 - 1 - b.value)) za zb)) (λ i h. or_some (k i) (l i)))
      (has-same any-ones (λ i h. or_one (k i) (l i)))

  unlike : HasBits (bit_and (bit_xor a.value b.value) (bit_and a.known b.known)) (λ i. cond (one k i) (not (one l i)) (one l i) && (some k i && some l i)) w
  unlike = and-has (λ i. cond (one k i) (not (one l i)) (one l i)) (λ i. some k i && some l i) w (bit_xor a.value b.value) (bit_and a.known b.known) differ both-known

  pub xor-shown : ◌≡◌ {A = Masks} (record { known = bit_and a.known b.known; value = bit_and (bit_xor a.value b.value) (bit_and a.known b.known) }) (masks_of (λ i. known_xor (k i) (l i)) w)
  xor-shown = made (bit_and a.known b.known) (bit_and (bit_xor a.value b.value) (bit_and a.known b.known)) (λ i. known_xor (k i) (l i)) w
      (has-same both-known (λ i h. xor_some (k i) (l i))) (has-same unlike (λ i h. xor_one (k i) (l i)))

  alike : HasBits (bit_and (bit_and a.known b.known) (2 ^ 64 - 1 - bit_xor a.value b.value)) (λ i. (some k i && some l i) && not (cond (one k i) (not (one l i)) (one l i))) w
  alike = and-first (λ i. some k i && some l i) (λ i. not (cond (one k i) (not (one l i)) (one l i))) w (bit_and a.known b.known) (2 ^ 64 - 1 - bit_xor a.value b.value) both-known
      (not-bit (λ i. cond (one k i) (not (one l i)) (one l i)) w (bit_xor a.value b.value) small differ)

  pub agreed-shown : ◌≡◌ {A = Masks} (record { known = bit_and (bit_and a.known b.known) (2 ^ 64 - 1 - bit_xor a.value b.value); value = bit_and a.value (bit_and (bit_and a.known b.known) (2 ^ 64 - 1 - bit_xor a.value b.value)) })
      (masks_of (λ i. agreed (k i) (l i)) w)
  agreed-shown = made (bit_and (bit_and a.known b.known) (2 ^ 64 - 1 - bit_xor a.value b.value)) (bit_and a.value (bit_and (bit_and a.known b.known) (2 ^ 64 - 1 - bit_xor a.value b.value))) (λ i. agreed (k i) (l i)) w
      (has-same alike (λ i h. agreed_some (k i) (l i)))
      (has-same (and-has (one k) (λ i. (some k i && some l i) && not (cond (one k i) (not (one l i)) (one l i))) w a.value (bit_and (bit_and a.known b.known) (2 ^ 64 - 1 - bit_xor a.value b.value)) (value-of a k w e) alike)
      (λ i h. agreed_one (k i) (l i)))

-- ---- words and single bits

pub word-shown : (v m w : ℕ) → w ≤ 64 → m ≡ 2 ^ min w 64 - 1 → ◌≡◌ {A = Masks} (record { known = m; value = bit_and v m }) (masks_of (λ i. Some (bit_at v i)) w)
word-shown v m w small e = let f = mask-is m w small e in rw f (made (2 ^ w - 1) (bit_and v (2 ^ w - 1)) (λ i. Some (bit_at v i)) w (ones-has w)
    (has-same (and-second (bit_at v) (λ i. true) w v (2 ^ w - 1) (λ i l. refl) (ones-has w)) (λ i l. and_true (bit_at v i))))

pub bit-shown : (v : Bool) → ◌≡◌ {A = Masks} (record { known = 1; value = cond v 1 0 }) (masks_of (λ i. Some v) 1)
bit-shown true = refl
bit-shown false = refl

-- whether all bits are known, and the number that they then make
pub whole-is : (k : ℕ → Option Bool) (w : ℕ) (a : Masks) (m : ℕ) → w ≤ 64 → a ≡ masks_of k w → m ≡ 2 ^ min w 64 - 1 → (a.known == m) ≡ all_below (some k) w
whole-is k w a m small e f = ap₂ (λ x y. x == y) (has-number (known-of a k w e)) (mask-is m w small f) ∙ sym (all-bits (some k) w)

pub known_number-is : (k : ℕ → Option Bool) (w : ℕ) → known_number k w ≡ cond (all_below (some k) w) (Some (number (one k) w)) None
known_number-is k zero = refl
known_number-is k (suc w) = ap (λ o. known_plus o (k w) (2 ^ w)) (known_number-is k w) ∙ go (all_below (some k) w) (k w)
  where
    go : (b : Bool) (o : Option Bool) → known_plus (cond b (Some (number (one k) w)) None) o (2 ^ w) ≡ cond (b && is_some o) (Some (number (one k) w + cond (is_one o) (2 ^ w) 0)) None
    go true (Some v) = refl
    go true None = refl
    go false o = refl

pub word-is : (k : ℕ → Option Bool) (w : ℕ) (a : Masks) → a ≡ masks_of k w → (b : Bool) → b ≡ all_below (some k) w → cond b (Some a.value) None ≡ known_number k w
word-is k w a e b f = ap₂ (λ t n. cond t (Some n) None) f (has-number (value-of a k w e)) ∙ sym (known_number-is k w)

pub bit-is : (k : ℕ → Option Bool) (w i : ℕ) (a : Masks) → i < w → a ≡ masks_of k w → cond (bit_at a.known i) (Some (bit_at a.value i)) None ≡ k i
bit-is k w i a h e = ap₂ (λ t v. cond t (Some v) None) ((known-of a k w e).each i h) ((value-of a k w e).each i h) ∙ go (k i)
  where
    go : (o : Option Bool) → cond (is_some o) (Some (is_one o)) None ≡ o
    go None = refl
    go (Some v) = refl

-- ---- sums and differences

pub all_below-same : (f g : ℕ → Bool) (w : ℕ) → ((i : ℕ) → i < w → f i ≡ g i) → all_below f w ≡ all_below g w
all_below-same f g zero each = refl
all_below-same f g (suc w) each = ap₂ (λ x y. x && y) (all_below-same f g w (λ i h. each i (omega arith))) (each w (omega arith))

all_below-both : (f g : ℕ → Bool) (w : ℕ) → all_below (λ i. f i && g i) w ≡ (all_below f w && all_below g w)
all_below-both f g zero = refl
all_below-both f g (suc w) = ap (λ x. x && (f w && g w)) (all_below-both f g w) ∙ go (all_below f w) (all_below g w) (f w) (g w)
  where
    go : (a b c d : Bool) → ((a && b) && (c && d)) ≡ ((a && c) && (b && d))
    go true b true d = refl
    go true b false d = and-no b
      where
        and-no : (b : Bool) → (b && false) ≡ false
        and-no true = refl
        and-no false = refl
    go false b c d = refl

-- a word of which the low bits are done, with one more
pub front-more : (f : ℕ → Bool) (w : ℕ) → w < 64 → (front : ℕ) → front ≡ number f w → f w ≡ true → bit_or front (1 * 2 ^ w % 2 ^ 64) ≡ number f (suc w)
front-more f w h front e t =
    let m : 2 ^ suc w ≤ 2 ^ 64 = pow_mono h in
    let p : 1 * 2 ^ w % 2 ^ 64 ≡ 1 * 2 ^ w = mod-eq_of_lt (let l : 1 * 2 ^ w < 2 ^ 64 = omega (arith, pow-step w) in l) in
    ap₂ bit_or e p ∙ or_comm (number f w) (1 * 2 ^ w) ∙ or_shifted 1 w (number f w) (number-lt f w)
    ∙ (let d : 1 * 2 ^ w + number f w ≡ number f w + 2 ^ w = omega arith in d) ∙ ap (λ b. number f w + cond b (2 ^ w) 0) (sym t)
  where
    pow-step : (w : ℕ) → 2 ^ w < 2 ^ suc w
    pow-step w = let p = pow_pos w in let s = pow-suc 2 w in omega arith

pub front-same : (f : ℕ → Bool) (w : ℕ) (front : ℕ) → front ≡ number f w → f w ≡ false → front ≡ number f (suc w)
front-same f w front e t = e ∙ (let d : number f w ≡ number f w + 0 = omega arith in d) ∙ ap (λ b. number f w + cond b (2 ^ w) 0) (sym t)

numbers_some : (p q : Bool) (m n : ℕ) (g : ℕ → ℕ → Bool) → (p && q) ≡ is_some (on_numbers (cond p (Some m) None) (cond q (Some n) None) g)
numbers_some true true m n g = refl
numbers_some true false m n g = refl
numbers_some false q m n g = refl

numbers_one : (p q : Bool) (m n : ℕ) (g : ℕ → ℕ → Bool) → (g m n && (p && q)) ≡ is_one (on_numbers (cond p (Some m) None) (cond q (Some n) None) g)
numbers_one true true m n g = and_true (g m n)
numbers_one true false m n g = and-no (g m n)
  where
    and-no : (b : Bool) → (b && false) ≡ false
    and-no true = refl
    and-no false = refl
numbers_one false q m n g = and-no (g m n)
  where
    and-no : (b : Bool) → (b && false) ≡ false
    and-no true = refl
    and-no false = refl

module _ (k l : ℕ → Option Bool) (w : ℕ) (a b : Masks) (front : ℕ) (small : w ≤ 64) (e : a ≡ masks_of k w) (f : b ≡ masks_of l w)
    (is : front ≡ number (λ i. all_below (bit_at (bit_and a.known b.known)) (suc i)) w) where
  front-has : HasBits front (λ i. all_below (some k) (suc i) && all_below (some l) (suc i)) w
  front-has = has-same (subst (λ n. HasBits n (λ i. all_below (bit_at (bit_and a.known b.known)) (suc i)) w) (sym is) (number-has (λ i. all_below (bit_at (bit_and a.known b.known)) (suc i)) w))
      (λ i h. all_below-same (bit_at (bit_and a.known b.known)) (λ j. some k j && some l j) (suc i) (λ j g. (both-known k l w a b small e f).each j (omega arith)) ∙ all_below-both (some k) (some l) (suc i))

  -- the result of an operation on the known bits up to each
  numbers-shown : (op : ℕ → ℕ → ℕ → Bool) (x : ℕ) → ((i : ℕ) → i < w → bit_at x i ≡ op i (number (one k) (suc i)) (number (one l) (suc i)))
      → ◌≡◌ {A = Masks} (record { known = front; value = bit_and x front }) (masks_of (λ i. on_numbers (known_number k (suc i)) (known_number l (suc i)) (op i)) w)
  numbers-shown op x each = made front (bit_and x front) (λ i. on_numbers (known_number k (suc i)) (known_number l (suc i)) (op i)) w
      (has-same front-has (λ i h. numbers_some (all_below (some k) (suc i)) (all_below (some l) (suc i)) (number (one k) (suc i)) (number (one l) (suc i)) (op i)
      ∙ ap₂ (λ o p. is_some (on_numbers o p (op i))) (sym (known_number-is k (suc i))) (sym (known_number-is l (suc i)))))
      (has-same (and-second (λ i. op i (number (one k) (suc i)) (number (one l) (suc i))) (λ i. all_below (some k) (suc i) && all_below (some l) (suc i)) w x front each front-has)
      (λ i h. numbers_one (all_below (some k) (suc i)) (all_below (some l) (suc i)) (number (one k) (suc i)) (number (one l) (suc i)) (op i)
      ∙ ap₂ (λ o p. is_one (on_numbers o p (op i))) (sym (known_number-is k (suc i))) (sym (known_number-is l (suc i)))))

  pub sum-shown : ◌≡◌ {A = Masks} (record { known = front; value = bit_and ((a.value + b.value) % 2 ^ 64) front })
      (masks_of (λ i. on_numbers (known_number k (suc i)) (known_number l (suc i)) (λ m n. bit_at (m + n) i)) w)
  sum-shown = numbers-shown (λ i m n. bit_at (m + n) i) ((a.value + b.value) % 2 ^ 64)
      (λ i h. sym (bit-low ((a.value + b.value) % 2 ^ 64) w i h) ∙ (add-has (one k) (one l) w a.value b.value small (value-of a k w e) (value-of b l w f)).each i h)

  pub difference-shown : ◌≡◌ {A = Masks} (record { known = front; value = bit_and ((a.value + (2 ^ 64 - b.value)) % 2 ^ 64) front })
      (masks_of (λ i. on_numbers (known_number k (suc i)) (known_number l (suc i)) (λ m n. bit_at (2 ^ suc i + m - n) i)) w)
  difference-shown = numbers-shown (λ i m n. bit_at (2 ^ suc i + m - n) i) ((a.value + (2 ^ 64 - b.value)) % 2 ^ 64)
      (λ i h. sym (bit-low ((a.value + (2 ^ 64 - b.value)) % 2 ^ 64) w i h) ∙ (sub-has (one k) (one l) w a.value b.value small (value-of a k w e) (value-of b l w f)).each i h)

-- ---- all bits in one

pub known_all-is : (q : ℕ → Option Bool) (w : ℕ) → known_all q w ≡ cond (any_below (λ i. some q i && not (one q i)) w) (Some false) (cond (all_below (some q) w) (Some true) None)
known_all-is q zero = refl
known_all-is q (suc w) = ap (λ o. known_and o (q w)) (known_all-is q w) ∙ go (any_below (λ i. some q i && not (one q i)) w) (all_below (some q) w) (q w)
  where
    go : (z s : Bool) (o : Option Bool) → known_and (cond z (Some false) (cond s (Some true) None)) o ≡ cond (z || (is_some o && not (is_one o))) (Some false) (cond (s && is_some o) (Some true) None)
    go true s o = refl
    go false true None = refl
    go false true (Some true) = refl
    go false true (Some false) = refl
    go false false None = refl
    go false false (Some true) = refl
    go false false (Some false) = refl

pub known_any-is : (q : ℕ → Option Bool) (w : ℕ) → known_any q w ≡ cond (any_below (one q) w) (Some true) (cond (all_below (some q) w) (Some false) None)
known_any-is q zero = refl
known_any-is q (suc w) = ap (λ o. known_or o (q w)) (known_any-is q w) ∙ go (any_below (one q) w) (all_below (some q) w) (q w)
  where
    go : (z s : Bool) (o : Option Bool) → known_or (cond z (Some true) (cond s (Some false) None)) o ≡ cond (z || is_one o) (Some true) (cond (s && is_some o) (Some false) None)
    go true s o = refl
    go false true None = refl
    go false true (Some true) = refl
    go false true (Some false) = refl
    go false false None = refl
    go false false (Some true) = refl
    go false false (Some false) = refl

pub known_odd-is : (q : ℕ → Option Bool) (w : ℕ) → known_odd q w ≡ cond (all_below (some q) w) (Some (odd_below (one q) w)) None
known_odd-is q zero = refl
known_odd-is q (suc w) = ap (λ o. known_xor (q w) o) (known_odd-is q w) ∙ go (q w) (all_below (some q) w) (odd_below (one q) w)
  where
    go : (o : Option Bool) (b d : Bool) → known_xor o (cond b (Some d) None) ≡ cond (b && is_some o) (Some (cond (is_one o) (not d) d)) None
    go None true d = refl
    go None false d = refl
    go (Some true) true d = refl
    go (Some true) false d = refl
    go (Some false) true d = refl
    go (Some false) false d = refl

-- a word has a bit where it isn't 0
any-has : (f : ℕ → Bool) (w x : ℕ) → HasBits x f w → not (x == 0) ≡ any_below f w
any-has f w x h = ap (λ n. not (n == 0)) (has-number h) ∙ sym (any-bit f w)

any_below-same : (f g : ℕ → Bool) (w : ℕ) → ((i : ℕ) → i < w → f i ≡ g i) → any_below f w ≡ any_below g w
any_below-same f g zero each = refl
any_below-same f g (suc w) each = ap₂ (λ x y. x || y) (any_below-same f g w (λ i h. each i (omega arith))) (each w (omega arith))

pub equal-is : (k l : ℕ → Option Bool) (w : ℕ) (a b : Masks) (m : ℕ) → w ≤ 64 → a ≡ masks_of k w → b ≡ masks_of l w → m ≡ 2 ^ min w 64 - 1
    → cond (not (bit_and (bit_xor a.value b.value) (bit_and a.known b.known) == 0)) (Some false) (cond (bit_and a.known b.known == m) (Some true) None) ≡ known_all (λ j. option_map not (known_xor (k j) (l j))) w
equal-is k l w a b m small e f n =
    ap₂ (λ x y. cond x (Some false) (cond y (Some true) None))
    (any-has (λ i. cond (one k i) (not (one l i)) (one l i) && (some k i && some l i)) w (bit_and (bit_xor a.value b.value) (bit_and a.known b.known)) (unlike k l w a b small e f)
    ∙ any_below-same (λ i. cond (one k i) (not (one l i)) (one l i) && (some k i && some l i)) (λ i. is_some (q i) && not (is_one (q i))) w (λ i h. refuted (k i) (l i)))
    (ap₂ (λ x y. x == y) (has-number (both-known k l w a b small e f)) (mask-is m w small n) ∙ sym (all-bits (λ i. some k i && some l i) w)
    ∙ all_below-same (λ i. some k i && some l i) (some q) w (λ i h. xor_some (k i) (l i) ∙ not_some (known_xor (k i) (l i))))
    ∙ sym (known_all-is q w)
  where
    q : ℕ → Option Bool
    q j = option_map not (known_xor (k j) (l j))

    refuted : (o p : Option Bool) → (cond (is_one o) (not (is_one p)) (is_one p) && (is_some o && is_some p))
        ≡ (is_some (option_map not (known_xor o p)) && not (is_one (option_map not (known_xor o p))))
    refuted None None = refl
    refuted None (Some true) = refl
    refuted None (Some false) = refl
    refuted (Some true) None = refl
    refuted (Some false) None = refl
    refuted (Some true) (Some true) = refl
    refuted (Some true) (Some false) = refl
    refuted (Some false) (Some true) = refl
    refuted (Some false) (Some false) = refl

module _ (k : ℕ → Option Bool) (w : ℕ) (a : Masks) (small : w ≤ 64) (e : a ≡ masks_of k w) where
  pub all-is : (t : Bool) → t ≡ all_below (some k) w → cond (not (bit_and a.known (2 ^ 64 - 1 - a.value) == 0)) (Some false) (cond t (Some true) None) ≡ known_all k w
  all-is t f = ap₂ (λ x y. cond x (Some false) (cond y (Some true) None))
      (any-has (λ i. some k i && not (one k i)) w (bit_and a.known (2 ^ 64 - 1 - a.value)) (zeros-has k w a.known a.value small (known-of a k w e) (value-of a k w e))) f ∙ sym (known_all-is k w)

  pub any-is : (t : Bool) → t ≡ all_below (some k) w → cond (not (a.value == 0)) (Some true) (cond t (Some false) None) ≡ known_any k w
  any-is t f = ap₂ (λ x y. cond x (Some true) (cond y (Some false) None)) (any-has (one k) w a.value (value-of a k w e)) f ∙ sym (known_any-is k w)

pub odd-is : (k : ℕ → Option Bool) (w : ℕ) → on_number (known_number k w) None (λ n. Some (count_ones n % 2 == 1)) ≡ known_odd k w
odd-is k w = ap (λ o. on_number o None (λ n. Some (count_ones n % 2 == 1))) (known_number-is k w) ∙ go (all_below (some k) w) ∙ sym (known_odd-is k w)
  where
    parity : (count_ones (number (one k) w) % 2 == 1) ≡ odd_below (one k) w
    parity = ap (λ n. n == 1) (let e : count_ones (number (one k) w) % 2 ≡ count_ones (number (one k) w) % 2 / 2 ^ 0 % 2 = omega arith in e) ∙ (odd-bits (one k) w).each 0 (omega arith)

    go : (b : Bool) → on_number (cond b (Some (number (one k) w)) None) None (λ n. Some (count_ones n % 2 == 1)) ≡ cond b (Some (odd_below (one k) w)) None
    go true = ap Some parity
    go false = refl

-- ---- moved words

module _ (k : ℕ → Option Bool) (w n : ℕ) (a : Masks) (m : ℕ) (small : w ≤ 64) (e : a ≡ masks_of k w) (is : m ≡ 2 ^ min w 64 - 1) where
  m-has : HasBits m (λ i. true) w
  m-has = subst (λ x. HasBits x (λ i. true) w) (sym (mask-is m w small is)) (ones-has w)

  -- a bit of a word that is moved up
  up-bit : (f : ℕ → Bool) (u : ℕ) → HasBits u f w → (i : ℕ) → i < w → bit_at (u * 2 ^ n % 2 ^ 64) i ≡ cond (nat_lt i n) false (f (i - n))
  up-bit f u h i l = bit-low (u * 2 ^ n) 64 i (omega arith) ∙ bit-up u n i ∙ go (nat_lt i n) refl
    where
      go : (b : Bool) → nat_lt i n ≡ b → cond b false (bit_at u (i - n)) ≡ cond b false (f (i - n))
      go true t = refl
      go false t = h.each (i - n) (omega arith)

  -- the places below n
  below-bit : (i : ℕ) → i < w → bit_at (2 ^ 64 - 1 - (2 ^ 64 - 1) * 2 ^ n % 2 ^ 64) i ≡ nat_lt i n
  below-bit i l = bit-not ((2 ^ 64 - 1) * 2 ^ n % 2 ^ 64) i (mod-lt ((2 ^ 64 - 1) * 2 ^ n) (pow_pos 64)) (omega arith)
      ∙ ap not (bit-low ((2 ^ 64 - 1) * 2 ^ n) 64 i (omega arith) ∙ bit-up (2 ^ 64 - 1) n i ∙ ap (cond (nat_lt i n) false) (bit-ones 64 (i - n) ∙ lt-ltb (i - n) 64 (omega arith))) ∙ go (nat_lt i n)
    where
      go : (b : Bool) → not (cond b false true) ≡ b
      go true = refl
      go false = refl

  pub up-shown : ◌≡◌ {A = Masks} (record { known = bit_and (bit_or (a.known * 2 ^ n % 2 ^ 64) (2 ^ 64 - 1 - (2 ^ 64 - 1) * 2 ^ n % 2 ^ 64)) m; value = bit_and (a.value * 2 ^ n % 2 ^ 64) m })
      (masks_of (λ i. cond (nat_lt i n) (Some false) (cond (nat_lt (i - n) w) (k (i - n)) (Some false))) w)
  up-shown = made (bit_and (bit_or (a.known * 2 ^ n % 2 ^ 64) (2 ^ 64 - 1 - (2 ^ 64 - 1) * 2 ^ n % 2 ^ 64)) m) (bit_and (a.value * 2 ^ n % 2 ^ 64) m) (λ i. cond (nat_lt i n) (Some false) (cond (nat_lt (i - n) w) (k (i - n)) (Some false))) w
      (has-same (and-second (λ i. cond (nat_lt i n) false (some k (i - n)) || nat_lt i n) (λ i. true) w (bit_or (a.known * 2 ^ n % 2 ^ 64) (2 ^ 64 - 1 - (2 ^ 64 - 1) * 2 ^ n % 2 ^ 64)) m
      (λ i l. bit_or-bit (a.known * 2 ^ n % 2 ^ 64) (2 ^ 64 - 1 - (2 ^ 64 - 1) * 2 ^ n % 2 ^ 64) i ∙ ap₂ (λ x y. x || y) (up-bit (some k) a.known (known-of a k w e) i l) (below-bit i l)) m-has) known)
      (has-same (and-second (λ i. cond (nat_lt i n) false (one k (i - n))) (λ i. true) w (a.value * 2 ^ n % 2 ^ 64) m (up-bit (one k) a.value (value-of a k w e)) m-has) value)
    where
      within : (i : ℕ) → i < w → nat_lt (i - n) w ≡ true
      within i l = lt-ltb (i - n) w (omega arith)

      known : (i : ℕ) → i < w → ((cond (nat_lt i n) false (some k (i - n)) || nat_lt i n) && true) ≡ is_some (cond (nat_lt i n) (Some false) (cond (nat_lt (i - n) w) (k (i - n)) (Some false)))
      known i l = rw (within i l) (and_true (cond (nat_lt i n) false (some k (i - n)) || nat_lt i n) ∙ go (nat_lt i n))
        where
          go : (b : Bool) → (cond b false (some k (i - n)) || b) ≡ is_some (cond b (Some false) (k (i - n)))
          go true = refl
          go false = or_false (some k (i - n))

      value : (i : ℕ) → i < w → (cond (nat_lt i n) false (one k (i - n)) && true) ≡ is_one (cond (nat_lt i n) (Some false) (cond (nat_lt (i - n) w) (k (i - n)) (Some false)))
      value i l = rw (within i l) (and_true (cond (nat_lt i n) false (one k (i - n))) ∙ go (nat_lt i n))
        where
          go : (b : Bool) → cond b false (one k (i - n)) ≡ is_one (cond b (Some false) (k (i - n)))
          go true = refl
          go false = refl

  pub down-shown : ◌≡◌ {A = Masks} (record { known = bit_and (bit_or (a.known / 2 ^ n) (2 ^ 64 - 1 - m / 2 ^ n)) m; value = a.value / 2 ^ n })
      (masks_of (λ i. cond (nat_lt (i + n) w) (k (i + n)) (Some false)) w)
  down-shown = made (bit_and (bit_or (a.known / 2 ^ n) (2 ^ 64 - 1 - m / 2 ^ n)) m) (a.value / 2 ^ n) (λ i. cond (nat_lt (i + n) w) (k (i + n)) (Some false)) w
      (has-same (and-second (λ i. cond (nat_lt (i + n) w) (some k (i + n)) false || not (cond (nat_lt (i + n) w) true false)) (λ i. true) w (bit_or (a.known / 2 ^ n) (2 ^ 64 - 1 - m / 2 ^ n)) m
      (λ i l. bit_or-bit (a.known / 2 ^ n) (2 ^ 64 - 1 - m / 2 ^ n) i
      ∙ ap₂ (λ x y. x || y) ((down-has (some k) w a.known n (known-of a k w e)).each i l) (not-bit (λ i. cond (nat_lt (i + n) w) true false) w (m / 2 ^ n) small (down-has (λ i. true) w m n m-has) i l)) m-has)
      (λ i l. and_true (cond (nat_lt (i + n) w) (some k (i + n)) false || not (cond (nat_lt (i + n) w) true false)) ∙ known (nat_lt (i + n) w) (k (i + n))))
      (has-same (down-has (one k) w a.value n (value-of a k w e)) (λ i l. cond_one (nat_lt (i + n) w) (k (i + n)) (Some false)))
    where
      known : (b : Bool) (o : Option Bool) → (cond b (is_some o) false || not (cond b true false)) ≡ is_some (cond b o (Some false))
      known true o = or_false (is_some o)
      known false o = refl

pub slice-shown : (k : ℕ → Option Bool) (w at v m : ℕ) (a : Masks) → w ≤ 64 → at + v ≤ w → a ≡ masks_of k w → m ≡ 2 ^ min v 64 - 1
    → ◌≡◌ {A = Masks} (record { known = bit_and (a.known / 2 ^ at) m; value = bit_and (a.value / 2 ^ at) m }) (masks_of (λ i. k (at + i)) v)
slice-shown k w at v m a small fits e is = made (bit_and (a.known / 2 ^ at) m) (bit_and (a.value / 2 ^ at) m) (λ i. k (at + i)) v
    (low a.known (some k) (known-of a k w e)) (low a.value (one k) (value-of a k w e))
  where
    low : (u : ℕ) (f : ℕ → Bool) → HasBits u f w → HasBits (bit_and (u / 2 ^ at) m) (λ i. f (at + i)) v
    low u f h = subst (λ x. HasBits x (λ i. f (at + i)) v) (sym (ap (bit_and (u / 2 ^ at)) (mask-is m v (omega arith) is) ∙ and_mask (u / 2 ^ at) v)) (slice-has f w u at v fits h)

pub joined-shown : (k l : ℕ → Option Bool) (w v : ℕ) (a b : Masks) → w + v ≤ 64 → a ≡ masks_of k w → b ≡ masks_of l v
    → ◌≡◌ {A = Masks} (record { known = bit_or (a.known * 2 ^ v % 2 ^ 64) b.known; value = bit_or (a.value * 2 ^ v % 2 ^ 64) b.value }) (masks_of (λ i. cond (nat_lt i v) (l i) (k (i - v))) (w + v))
joined-shown k l w v a b small e f = made (bit_or (a.known * 2 ^ v % 2 ^ 64) b.known) (bit_or (a.value * 2 ^ v % 2 ^ 64) b.value) (λ i. cond (nat_lt i v) (l i) (k (i - v))) (w + v)
    (has-same (joined-has (some k) (some l) w v a.known b.known small (known-of a k w e) (known-of b l v f)) (λ i h. cond_some (nat_lt i v) (l i) (k (i - v))))
    (has-same (joined-has (one k) (one l) w v a.value b.value small (value-of a k w e) (value-of b l v f)) (λ i h. cond_one (nat_lt i v) (l i) (k (i - v))))

pub extended-shown : (k : ℕ → Option Bool) (v w m n : ℕ) (a : Masks) → v ≤ w → w ≤ 64 → a ≡ masks_of k v → m ≡ 2 ^ min w 64 - 1 → n ≡ 2 ^ min v 64 - 1
    → ◌≡◌ {A = Masks} (record { known = bit_or a.known (bit_and m (2 ^ 64 - 1 - n)); value = a.value }) (masks_of (λ i. cond (nat_lt i v) (k i) (Some false)) w)
extended-shown k v w m n a le small e is at = made (bit_or a.known (bit_and m (2 ^ 64 - 1 - n))) a.value (λ i. cond (nat_lt i v) (k i) (Some false)) w
    (has-same (or-has (λ i. cond (nat_lt i v) (some k i) false) (λ i. true && not (cond (nat_lt i v) true false)) w a.known (bit_and m (2 ^ 64 - 1 - n)) (wider-has (some k) v a.known w le (known-of a k v e))
    (and-first (λ i. true) (λ i. not (cond (nat_lt i v) true false)) w m (2 ^ 64 - 1 - n) all
    (not-bit (λ i. cond (nat_lt i v) true false) w n small (wider-has (λ i. true) v n w le low))))
    (λ i h. known (nat_lt i v) (k i)))
    (has-same (wider-has (one k) v a.value w le (value-of a k v e)) (λ i h. cond_one (nat_lt i v) (k i) (Some false)))
  where
    all : HasBits m (λ i. true) w
    all = subst (λ x. HasBits x (λ i. true) w) (sym (mask-is m w small is)) (ones-has w)

    low : HasBits n (λ i. true) v
    low = subst (λ x. HasBits x (λ i. true) v) (sym (mask-is n v (omega arith) at)) (ones-has v)

    known : (b : Bool) (o : Option Bool) → (cond b (is_some o) false || (true && not (cond b true false))) ≡ is_some (cond b o (Some false))
    known true o = or_false (is_some o)
    known false o = refl
