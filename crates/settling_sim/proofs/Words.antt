-- Bits of words that are set, and the readings that words give.
use Rattle.std.proofs.Common.{◌≡◌, ◌≢◌, ◌∙◌, ℕ, suc, ◌+◌, ◌*◌, ◌^◌, ◌<◌, ◌≤◌, ◌==◌, Bool, true, false, cond, not, ◌&&◌, ◌||◌, nat_lt, List, [], ◌∷◌, length, set, get_or, Option, Some, None, refl, sym, ap, subst, arith, eqb-true, eq-eqb, lt-ltb}
use Rattle.std.specs.Bool.{beq}
use Rattle.std.specs.Prelude.{All, bit_xor, unwrap_or, slice_get}
use Rattle.std.proofs.lemmas.Bool.{both_ways, eqb-false}
use Rattle.std.proofs.lemmas.List.{length-set, get_or-set_same, get_or-set_other}
use Rattle.std.proofs.lemmas.Nat.{xor_lt, pow_pos}
use Rattle.std.proofs.lemmas.Nat.Bits.{bit_at-pow_same, bit_at-pow_other}
use Rattle.std.proofs.lemmas.Option.{unwrap_or-slice_get}
use Rattle.std.proofs.Math.Nat.{pow-suc}
use Rattle.std.proofs.Math.Pow.{pow_mono}
use Rattle.cdc_base.specs.declared.bit.Bit.{Bit}
use Rattle.cell_graph.specs.Reading.{bit_eq}
use Rattle.cell_graph.specs.Tree.{bit_at}
use Rattle.cell_graph.specs.Values.{word_at, reading_of}
use Rattle.cell_graph.proofs.Bits.{bit_eq-true}
use Rattle.cell_graph.proofs.Words.{bit_xor-bit}
use Rattle.settling_sim.specs.Words.{with_bit, put_bit}

-- a power of two has one bit
power_bit : (at i : ℕ) → bit_at (2 ^ at) i ≡ (at == i)
power_bit at i = go (at == i) refl
  where
    go : (b : Bool) → (at == i) ≡ b → bit_at (2 ^ at) i ≡ b
    go true e = subst (λ (k : ℕ). bit_at (2 ^ at) k ≡ true) (eqb-true at i e) (ap (λ n. n == 1) (bit_at-pow_same at))
    go false e = ap (λ n. n == 1) (bit_at-pow_other at i (λ f. eqb-false at i e (sym f)))

flip_digit : (b v : Bool) → beq b v ≡ false → not b ≡ v
flip_digit true true e = cc
flip_digit true false e = refl
flip_digit false true e = refl
flip_digit false false e = cc

same_digit : (b v : Bool) → beq b v ≡ true → b ≡ v
same_digit true true e = refl
same_digit true false e = cc
same_digit false true e = cc
same_digit false false e = refl

-- a bit that is set has its value, and the others keep theirs
pub bit-with : (w at i : ℕ) (v : Bool) → at < 64 → bit_at (with_bit w at v) i ≡ cond (at == i) v (bit_at w i)
bit-with w at i v h = ap (λ t. bit_at (cond (t && not (beq (bit_at w at) v)) (bit_xor w (2 ^ at)) w) i) (lt-ltb at 64 h) ∙ go (beq (bit_at w at) v) refl
  where
    kept : (t : Bool) → (at == i) ≡ t → bit_at w at ≡ v → bit_at w i ≡ cond t v (bit_at w i)
    kept true e same = ap (bit_at w) (sym (eqb-true at i e)) ∙ same
    kept false e same = refl

    flips : (t : Bool) → (at == i) ≡ t → not (bit_at w at) ≡ v → cond (bit_at w i) (not t) t ≡ cond t v (bit_at w i)
    flips true e other = yes (bit_at w i) ∙ ap (λ k. not (bit_at w k)) (sym (eqb-true at i e)) ∙ other
      where
        yes : (b : Bool) → cond b (not true) true ≡ not b
        yes true = refl
        yes false = refl
    flips false e other = same (bit_at w i)
      where
        same : (b : Bool) → cond b (not false) false ≡ b
        same true = refl
        same false = refl

    go : (t : Bool) → beq (bit_at w at) v ≡ t → bit_at (cond (not t) (bit_xor w (2 ^ at)) w) i ≡ cond (at == i) v (bit_at w i)
    go true e = kept (at == i) refl (same_digit (bit_at w at) v e)
    go false e = bit_xor-bit w (2 ^ at) i ∙ ap (λ b. cond (bit_at w i) (not b) b) (power_bit at i) ∙ flips (at == i) refl (flip_digit (bit_at w at) v e)

power-lt : (at w : ℕ) → at < w → 2 ^ at < 2 ^ w
power-lt at w h =
    let next : suc at ≤ w = omega arith in
    let more : 2 ^ suc at ≤ 2 ^ w = pow_mono next in
    let twice = pow-suc 2 at in
    let some = pow_pos at in
    omega arith

-- a word keeps its width
pub with-lt : (w at n : ℕ) (v : Bool) → w < 2 ^ n → at < n → with_bit w at v < 2 ^ n
with-lt w at n v h l = go (nat_lt at 64 && not (beq (bit_at w at) v))
  where
    go : (t : Bool) → cond t (bit_xor w (2 ^ at)) w < 2 ^ n
    go true = xor_lt n w (2 ^ at) h (power-lt at n l)
    go false = h

-- ---- words of signals

pub word-get : (words : List ℕ) (sig : ℕ) → word_at words sig ≡ get_or words sig 0
word-get words sig = unwrap_or-slice_get words sig 0

pub word-set_same : (words : List ℕ) (sig w : ℕ) → sig < length words → word_at (set words sig w) sig ≡ w
word-set_same words sig w h = word-get (set words sig w) sig ∙ get_or-set_same words sig w 0 h

pub word-set_other : (words : List ℕ) (sig other w : ℕ) → sig ≢ other → word_at (set words sig w) other ≡ word_at words other
word-set_other words sig other w ne = word-get (set words sig w) other ∙ get_or-set_other words sig other w 0 (λ e. ne (sym e)) ∙ sym (word-get words other)

-- a signal's bits are those of its new word, and the others stay
pub reading-set : (words : List ℕ) (sig w : ℕ) (a : Bit) → sig < length words
    → reading_of (set words sig w) a ≡ cond (sig == a.sig) (bit_at w a.at) (reading_of words a)
reading-set words sig w a h = go (sig == a.sig) refl
  where
    go : (t : Bool) → (sig == a.sig) ≡ t → bit_at (word_at (set words sig w) a.sig) a.at ≡ cond t (bit_at w a.at) (reading_of words a)
    go true e = ap (λ k. bit_at (word_at (set words sig w) k) a.at) (sym (eqb-true sig a.sig e)) ∙ ap (λ n. bit_at n a.at) (word-set_same words sig w h)
    go false e = ap (λ n. bit_at n a.at) (word-set_other words sig a.sig w (eqb-false sig a.sig e))

-- a bit that is put has its value, and the others keep theirs
pub reading-put : (words : List ℕ) (b a : Bit) (v : Bool) → b.sig < length words → b.at < 64
    → reading_of (put_bit words b v) a ≡ cond (bit_eq b a) v (reading_of words a)
reading-put words b a v h l = reading-set words b.sig (with_bit (word_at words b.sig) b.at v) a h ∙ go (b.sig == a.sig) refl
  where
    go : (t : Bool) → (b.sig == a.sig) ≡ t → cond t (bit_at (with_bit (word_at words b.sig) b.at v) a.at) (reading_of words a) ≡ cond (t && (b.at == a.at)) v (reading_of words a)
    go true e = bit-with (word_at words b.sig) b.at a.at v l ∙ ap (λ k. cond (b.at == a.at) v (bit_at (word_at words k) a.at)) (eqb-true b.sig a.sig e)
    go false e = refl
