-- What a cube fixes of the bits of a signal.
use Rattle.std.proofs.Common.{◌≡◌, ◌∙◌, sym, ap, subst, refl, arith, ℕ, ◌+◌, ◌*◌, ◌%◌, ◌^◌, ◌<◌, ◌==◌, ◌≢◌, Bool, true, false, cond, ◌&&◌, ◌||◌, Option, Some, None, is_some, List, [], ◌∷◌, ◌++◌, length, take, get_or, eqb-true, eq-eqb}
use Rattle.std.proofs.lemmas.List.{take_more}
use Rattle.std.specs.Prelude.{bit_or}
use Rattle.std.proofs.lemmas.Bool.{eqb-false}
use Rattle.std.proofs.lemmas.Nat.Bits.{bit_at-pow_same, bit_at-pow_other}
use Rattle.cdc_base.specs.declared.bit.Bit.{Bit}
use Rattle.cell_graph.specs.Reading.{bit_eq}
use Rattle.cell_graph.specs.Tree.{bit_at}
use Rattle.cell_graph.specs.Cofactor.{fixed}
use Rattle.cell_graph.proofs.Words.{HasBits, has-same, or-has, low-has}
use Rattle.cofactor.specs.declared.cube.Fixed.{Fixed}
use Rattle.cofactor.specs.declared.masks.Masks.{Masks}
use Rattle.cofactor.specs.Masks.{is_one, masks_of}
use Rattle.cofactor.specs.Cubes.{bit, fixings, or_fixed}
use Rattle.cofactor.proofs.Shown.{some, one, known-of, value-of, made, masks-same}

-- one more fixing at the end
pub fixed-more : (fs : List Fixed) (f : Fixed) (b : Bit) → fixed (fixings (fs ++ f ∷ [])) b ≡ or_fixed (fixed (fixings fs) b) f b
fixed-more [] f b = refl
fixed-more (g ∷ fs) f b = go (bit_eq g.bit b) (fixed-more fs f b)
  where
    go : (t : Bool) → fixed (fixings (fs ++ f ∷ [])) b ≡ or_fixed (fixed (fixings fs) b) f b
        → cond t (Some g.value) (fixed (fixings (fs ++ f ∷ [])) b) ≡ or_fixed (cond t (Some g.value) (fixed (fixings fs) b)) f b
    go true ih = refl
    go false ih = ih

single-bit : (at i : ℕ) → bit_at (1 * 2 ^ at) i ≡ (at == i)
single-bit at i = ap (λ n. bit_at n i) (let e : 1 * 2 ^ at ≡ 2 ^ at = omega arith in e) ∙ go (at == i) refl
  where
    go : (b : Bool) → (at == i) ≡ b → bit_at (2 ^ at) i ≡ b
    go true e = ap (bit_at (2 ^ at)) (sym (eqb-true at i e)) ∙ ap (λ n. n == 1) (bit_at-pow_same at)
    go false e = ap (λ n. n == 1) (bit_at-pow_other at i (λ same. eqb-false at i e (sym same)))

place-has : (at : ℕ) → HasBits (1 * 2 ^ at % 2 ^ 64) (λ i. at == i) 64
place-has at = low-has (1 * 2 ^ at) 64 (λ i. at == i) (λ i l. single-bit at i)

module _ (k : ℕ → Option Bool) (m : Masks) (f : Fixed) (sig : ℕ) (e : m ≡ masks_of k 64) where
  stays : (o : Option Bool) (b : Bit) → bit_eq f.bit b ≡ false → o ≡ or_fixed o f b
  stays (Some v) b h = refl
  stays None b h = ap (λ t. cond t (Some f.value) None) (sym h)

  pub other-signal : f.bit.sig ≢ sig → m ≡ masks_of (λ i. or_fixed (k i) f (bit sig i)) 64
  other-signal h = e ∙ masks-same k (λ i. or_fixed (k i) f (bit sig i)) 64 (λ i l. stays (k i) (bit sig i) (ap (λ t. t && (f.bit.at == i)) (differs (f.bit.sig == sig) refl)))
    where
      differs : (t : Bool) → (f.bit.sig == sig) ≡ t → (f.bit.sig == sig) ≡ false
      differs true t = absurd (h (eqb-true f.bit.sig sig t))
      differs false t = t

  pub fixed-before : bit_at m.known f.bit.at ≡ true → m ≡ masks_of (λ i. or_fixed (k i) f (bit sig i)) 64
  fixed-before h = e ∙ masks-same k (λ i. or_fixed (k i) f (bit sig i)) 64 (λ i l. go i l (f.bit.at == i) refl)
    where
      known : (i : ℕ) → i < 64 → f.bit.at ≡ i → is_some (k i) ≡ true
      known i l at = sym ((known-of m k 64 e).each i l) ∙ ap (bit_at m.known) (sym at) ∙ h

      already : (o : Option Bool) (b : Bit) → is_some o ≡ true → o ≡ or_fixed o f b
      already (Some v) b s = refl
      already None b s = absurd (cc)

      go : (i : ℕ) → i < 64 → (t : Bool) → (f.bit.at == i) ≡ t → k i ≡ or_fixed (k i) f (bit sig i)
      go i l true t = already (k i) (bit sig i) (known i l (eqb-true f.bit.at i t))
      go i l false t = stays (k i) (bit sig i) (ap (λ b. (f.bit.sig == sig) && b) t ∙ and-no (f.bit.sig == sig))
        where
          and-no : (b : Bool) → (b && false) ≡ false
          and-no true = refl
          and-no false = refl

  module _ (same : f.bit.sig ≡ sig) (free : bit_at m.known f.bit.at ≡ false) where
    row : (i : ℕ) → bit_eq f.bit (bit sig i) ≡ (f.bit.at == i)
    row i = ap (λ t. t && (f.bit.at == i)) (eq-eqb f.bit.sig sig same)

    unknown : (i : ℕ) → i < 64 → (f.bit.at == i) ≡ true → is_some (k i) ≡ false
    unknown i l t = sym ((known-of m k 64 e).each i l) ∙ ap (bit_at m.known) (sym (eqb-true f.bit.at i t)) ∙ free

    -- the row with its test computed
    abbrev tested : (o : Option Bool) (t : Bool) → Option Bool
    tested (Some v) t = Some v
    tested None t = cond t (Some f.value) None

    tested-is : (i : ℕ) → tested (k i) (f.bit.at == i) ≡ or_fixed (k i) f (bit sig i)
    tested-is i = go (k i)
      where
        go : (o : Option Bool) → tested o (f.bit.at == i) ≡ or_fixed o f (bit sig i)
        go (Some v) = refl
        go None = ap (λ t. cond t (Some f.value) None) (sym (row i))

    known-row : (o : Option Bool) (t : Bool) → (is_some o || t) ≡ is_some (tested o t)
    known-row (Some v) t = refl
    known-row None true = refl
    known-row None false = refl

    one-row : f.value ≡ true → (o : Option Bool) (t : Bool) → (t ≡ true → is_some o ≡ false) → (is_one o || t) ≡ is_one (tested o t)
    one-row val (Some true) t h = refl
    one-row val (Some false) true h = absurd (let g = h refl in cc)
    one-row val (Some false) false h = refl
    one-row val None true h = sym val
    one-row val None false h = refl

    zero-row : f.value ≡ false → (o : Option Bool) (t : Bool) → is_one o ≡ is_one (tested o t)
    zero-row val (Some v) t = refl
    zero-row val None true = sym val
    zero-row val None false = refl

    pub newly-fixed : (place : ℕ) → place ≡ 1 * 2 ^ f.bit.at % 2 ^ 64 → (v : Bool) → f.value ≡ v
        → ◌≡◌ {A = Masks} (record { known = bit_or m.known place; value = cond v (bit_or m.value place) m.value }) (masks_of (λ i. or_fixed (k i) f (bit sig i)) 64)
    newly-fixed place is v val = made (bit_or m.known place) (cond v (bit_or m.value place) m.value) (λ i. or_fixed (k i) f (bit sig i)) 64
        (has-same (or-has (some k) (λ i. f.bit.at == i) 64 m.known place (known-of m k 64 e) here) (λ i l. known-row (k i) (f.bit.at == i) ∙ ap is_some (tested-is i)))
        (value v val)
      where
        here : HasBits place (λ i. f.bit.at == i) 64
        here = subst (λ n. HasBits n (λ i. f.bit.at == i) 64) (sym is) (place-has f.bit.at)

        value : (v : Bool) → f.value ≡ v → HasBits (cond v (bit_or m.value place) m.value) (one (λ i. or_fixed (k i) f (bit sig i))) 64
        value true val = has-same (or-has (one k) (λ i. f.bit.at == i) 64 m.value place (value-of m k 64 e) here)
            (λ i l. one-row val (k i) (f.bit.at == i) (unknown i l) ∙ ap is_one (tested-is i))
        value false val = has-same (value-of m k 64 e) (λ i l. zero-row val (k i) (f.bit.at == i) ∙ ap is_one (tested-is i))

pub row-more : (xs : List Fixed) (n : ℕ) (d : Fixed) (sig : ℕ) → n < length xs
    → masks_of (λ i. or_fixed (fixed (fixings (take n xs)) (bit sig i)) (get_or xs n d) (bit sig i)) 64 ≡ masks_of (λ i. fixed (fixings (take (n + 1) xs)) (bit sig i)) 64
row-more xs n d sig lt = masks-same (λ i. or_fixed (fixed (fixings (take n xs)) (bit sig i)) (get_or xs n d) (bit sig i)) (λ i. fixed (fixings (take (n + 1) xs)) (bit sig i)) 64
    (λ i l. sym (fixed-more (take n xs) (get_or xs n d) (bit sig i)) ∙ ap (λ ys. fixed (fixings ys) (bit sig i)) (sym (take_more xs n d lt)))
