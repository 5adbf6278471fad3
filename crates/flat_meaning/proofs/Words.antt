-- A tree whose bits are those of a word; each rule of trees keeps this.
use Rattle.std.proofs.Common.{◌≡◌, ℕ, zero, suc, ◌+◌, ◌-◌, ◌*◌, ◌^◌, ◌/◌, ◌%◌, ◌<◌, ◌≤◌, Bool, true, false, cond, not, ◌&&◌, ◌||◌, ◌==◌, nat_lt, min, refl, sym, ap, ap₂, subst, ◌∙◌, arith, pow-suc, pow_pos, pow-add, add-zero, add-suc, add_comm, add-mul, suc-mul, zero-mul, lt-ltb, ltb-true, ltb-false, eqb-true}
use Rattle.std.proofs.Math.Nat.{add-mul-div_right}
use Rattle.cell_graph.specs.Tree.{Tree, Const, Not, And, Or, Xor, Add, Sub, Eq, Lt, Shl, Shr, Mux, Concat, Slice, Extend, ReduceAnd, ReduceOr, ReduceXor, width, bit_at, number, all_below, any_below, odd_below, bit}
use Rattle.cell_graph.specs.Reading.{Reading}
use Rattle.cell_graph.proofs.Words.{number-lt, number-same, equal-bits, bit-zero}
use Rattle.flat_meaning.specs.Values.{Word}
use Rattle.flat_meaning.specs.Meaning.{padded, cat, copies}
use Rattle.flat_meaning.specs.Trees.{fit, cut, glue, truth, copies_tree}

pub never_same : {A : Type 0} → true ≡ false → A
never_same h = cc

pub never : {A : Type 0} (n : ℕ) → zero ≡ suc n → A
never n h = cc

-- ---- numbers

-- the bits above place n make a multiple of 2 ^ n
split : (f : Word) (n d : ℕ) → (k : ℕ) × (k < 2 ^ d) × (number f (n + d) ≡ number f n + k * 2 ^ n)
split f n zero = (0, omega arith, ap (number f) (add-zero n) ∙ (let e : number f n ≡ number f n + 0 * 2 ^ n = omega arith in e))
split f n (suc d) =
    let p = split f n d in
    rw add-suc (rw pow-suc (go (f (n + d)) p.0 p.1 p.2))
  where
    go : (v : Bool) (k : ℕ) → k < 2 ^ d → number f (n + d) ≡ number f n + k * 2 ^ n → (m : ℕ) × (m < 2 ^ d * 2) × (number f (n + d) + cond v (2 ^ (n + d)) 0 ≡ number f n + m * 2 ^ n)
    go true k h e = (k + 2 ^ d, omega arith, let a : (k + 2 ^ d) * 2 ^ n ≡ k * 2 ^ n + 2 ^ d * 2 ^ n = add-mul k (2 ^ d) (2 ^ n) in let b : 2 ^ (n + d) ≡ 2 ^ d * 2 ^ n = ap (λ x. 2 ^ x) (add_comm n d) ∙ pow-add 2 d n in omega arith)
    go false k h e = (k, omega arith, omega arith)

bit_high : (x k i : ℕ) → bit_at (x + k * 2 ^ suc i) i ≡ bit_at x i
bit_high x k i = ap (λ y. y == 1) (ap (λ y. (x + y) / 2 ^ i % 2) e ∙ ap (λ y. y % 2) (add-mul-div_right x (k * 2) (pow_pos i)) ∙ twice (x / 2 ^ i) k)
  where
    e : k * 2 ^ suc i ≡ k * 2 * 2 ^ i
    e = rw pow-suc (omega arith)

    twice : (a b : ℕ) → (a + b * 2) % 2 ≡ a % 2
    twice a b = omega arith

module _ (f g : Word) where
  at_split : (P : ℕ → Type 0) (i w : ℕ) → i < w → ((d : ℕ) → P (suc i + d)) → P w
  at_split P i w h p = let e : suc i + (w - suc i) ≡ w = omega arith in subst P e (p (w - suc i))

  pub low_sum : (w i : ℕ) → i < w → bit_at (number f w + number g w) i ≡ bit_at (number f (suc i) + number g (suc i)) i
  low_sum w i h = at_split (λ w. bit_at (number f w + number g w) i ≡ bit_at (number f (suc i) + number g (suc i)) i) i w h (λ d.
      let p = split f (suc i) d in let q = split g (suc i) d in
      let m : (p.0 + q.0) * 2 ^ suc i ≡ p.0 * 2 ^ suc i + q.0 * 2 ^ suc i = add-mul p.0 q.0 (2 ^ suc i) in
      let a = p.2 in let b = q.2 in
      let e : number f (suc i + d) + number g (suc i + d) ≡ number f (suc i) + number g (suc i) + (p.0 + q.0) * 2 ^ suc i = omega arith in
      ap (λ x. bit_at x i) e ∙ bit_high (number f (suc i) + number g (suc i)) (p.0 + q.0) i)

  pub low_difference : (w i : ℕ) → i < w → bit_at (2 ^ w + number f w - number g w) i ≡ bit_at (2 ^ suc i + number f (suc i) - number g (suc i)) i
  low_difference w i h = at_split (λ w. bit_at (2 ^ w + number f w - number g w) i ≡ bit_at (2 ^ suc i + number f (suc i) - number g (suc i)) i) i w h (λ d.
      let p = split f (suc i) d in let q = split g (suc i) d in go d p.0 q.0 p.2 q.1 q.2)
    where
      go : (d k m : ℕ) → number f (suc i + d) ≡ number f (suc i) + k * 2 ^ suc i → m < 2 ^ d → number g (suc i + d) ≡ number g (suc i) + m * 2 ^ suc i
          → bit_at (2 ^ (suc i + d) + number f (suc i + d) - number g (suc i + d)) i ≡ bit_at (2 ^ suc i + number f (suc i) - number g (suc i)) i
      go d k m a l b =
          let c = 2 ^ d - suc m in
          let s : 2 ^ (suc i + d) ≡ 2 ^ d * 2 ^ suc i = ap (λ x. 2 ^ x) (add_comm (suc i) d) ∙ pow-add 2 d (suc i) in
          let t : 2 ^ d ≡ c + suc m = omega arith in
          let u : 2 ^ d * 2 ^ suc i ≡ c * 2 ^ suc i + suc m * 2 ^ suc i = ap (λ x. x * 2 ^ suc i) t ∙ add-mul c (suc m) (2 ^ suc i) in
          let v : suc m * 2 ^ suc i ≡ m * 2 ^ suc i + 2 ^ suc i = suc-mul m (2 ^ suc i) in
          let n : (c + k) * 2 ^ suc i ≡ c * 2 ^ suc i + k * 2 ^ suc i = add-mul c k (2 ^ suc i) in
          let small = number-lt g (suc i) in
          let e : 2 ^ (suc i + d) + number f (suc i + d) - number g (suc i + d) ≡ 2 ^ suc i + number f (suc i) - number g (suc i) + (c + k) * 2 ^ suc i = omega arith in
          ap (λ x. bit_at x i) e ∙ bit_high (2 ^ suc i + number f (suc i) - number g (suc i)) (c + k) i

  module _ (n : ℕ) (same : (i : ℕ) → i < n → f i ≡ g i) where
    upto : (P : ℕ → Type 0) → P zero → ((i : ℕ) → i < n → P i → P (suc i)) → (i : ℕ) → i ≤ n → P i
    upto P z s zero h = z
    upto P z s (suc i) h = s i (omega arith) (upto P z s i (omega arith))

    pub same_all : all_below f n ≡ all_below g n
    same_all = upto (λ i. all_below f i ≡ all_below g i) refl (λ i h ih. ap₂ (λ x y. x && y) ih (same i h)) n (omega arith)

    pub same_any : any_below f n ≡ any_below g n
    same_any = upto (λ i. any_below f i ≡ any_below g i) refl (λ i h ih. ap₂ (λ x y. x || y) ih (same i h)) n (omega arith)

    pub same_odd : odd_below f n ≡ odd_below g n
    same_odd = upto (λ i. odd_below f i ≡ odd_below g i) refl (λ i h ih. ap₂ (λ x y. cond y (not x) x) ih (same i h)) n (omega arith)

-- ---- words

pub by_lt : (P : Bool → Type 0) (i n : ℕ) → (i < n → P true) → (n ≤ i → P false) → P (nat_lt i n)
by_lt P i n yes_ no_ = go (nat_lt i n) refl
  where
    go : (v : Bool) → nat_lt i n ≡ v → P v
    go true e = yes_ (ltb-true i n e)
    go false e = no_ (ltb-false i n e)

pub at_lt : (i n : ℕ) → i < n → (b : Bool) → (nat_lt i n && b) ≡ b
at_lt i n h b = ap (λ x. x && b) (lt-ltb i n h)

module _ (r : Reading) where
  -- the tree has w bits, and they are those of the word
  pub record IsWord (t : Tree) (w : ℕ) (f : Word) : Type 0 where
    pub wide : width t ≡ w
    pub bits : (i : ℕ) → i < w → bit r t i ≡ f i

  pub as_word : {t : Tree} {w : ℕ} {f g : Word} → IsWord t w f → ((i : ℕ) → i < w → f i ≡ g i) → IsWord t w g
  as_word p same = record { wide = p.wide; bits = λ i h. p.bits i h ∙ same i h }

  -- the number that the tree's bits make
  pub number_of : {t : Tree} {w : ℕ} {f : Word} → IsWord t w f → number (bit r t) (width t) ≡ number f w
  number_of {t} {w} {f} p = ap (number (bit r t)) p.wide ∙ number-same (bit r t) f w p.bits

  pub const_word : (w n : ℕ) → IsWord (Const w n) w (bit_at n)
  const_word w n = record { wide = refl; bits = λ i h. refl }

  pub zero_word : (w : ℕ) → IsWord (Const w 0) w (λ i. false)
  zero_word w = record { wide = refl; bits = λ i h. bit-zero i }

  pub not_word : {t : Tree} {w : ℕ} {f : Word} → IsWord t w f → IsWord (Not t) w (λ i. not (f i))
  not_word p = record { wide = p.wide; bits = λ i h. ap not (p.bits i h) }

  module _ {s t : Tree} {w : ℕ} {f g : Word} (p : IsWord s w f) (q : IsWord t w g) where
    pub and_word : IsWord (And s t) w (λ i. f i && g i)
    and_word = record { wide = p.wide; bits = λ i h. ap₂ (λ x y. x && y) (p.bits i h) (q.bits i h) }

    pub or_word : IsWord (Or s t) w (λ i. f i || g i)
    or_word = record { wide = p.wide; bits = λ i h. ap₂ (λ x y. x || y) (p.bits i h) (q.bits i h) }

    pub xor_word : IsWord (Xor s t) w (λ i. cond (f i) (not (g i)) (g i))
    xor_word = record { wide = p.wide; bits = λ i h. ap₂ (λ x y. cond x (not y) y) (p.bits i h) (q.bits i h) }

    pub add_word : IsWord (Add s t) w (λ i. bit_at (number f w + number g w) i)
    add_word = record { wide = p.wide; bits = λ i h. ap₂ (λ x y. bit_at (x + y) i) (number-same (bit r s) f (suc i) (λ j l. p.bits j (omega arith))) (number-same (bit r t) g (suc i) (λ j l. q.bits j (omega arith))) ∙ sym (low_sum f g w i h) }

    pub sub_word : IsWord (Sub s t) w (λ i. bit_at (2 ^ w + number f w - number g w) i)
    sub_word = record {
      wide = p.wide;
      bits = λ i h.
          ap₂ (λ x y. bit_at (2 ^ suc i + x - y) i) (number-same (bit r s) f (suc i) (λ j l. p.bits j (omega arith))) (number-same (bit r t) g (suc i) (λ j l. q.bits j (omega arith))) ∙ sym (low_difference f g w i h);
    }

    pub eq_word : IsWord (Eq s t) 1 (λ i. number f w == number g w)
    eq_word = record {
      wide = refl;
      bits = λ i h.
          ap (all_below (λ j. not (cond (bit r s j) (not (bit r t j)) (bit r t j)))) p.wide
          ∙ same_all (λ j. not (cond (bit r s j) (not (bit r t j)) (bit r t j))) (λ j. not (cond (f j) (not (g j)) (g j))) w (λ j l. ap₂ (λ x y. not (cond x (not y) y)) (p.bits j l) (q.bits j l))
          ∙ sym (equal-bits f g w);
    }

    pub lt_word : IsWord (Lt s t) 1 (λ i. nat_lt (number f w) (number g w))
    lt_word = record { wide = refl; bits = λ i h. ap₂ nat_lt (number_of p) (ap (number (bit r t)) (p.wide ∙ sym q.wide) ∙ number_of q) }

    pub mux_word : {c : Tree} {b : Bool} → IsWord c 1 (λ i. b) → IsWord (Mux c s t) w (λ i. cond b (f i) (g i))
    mux_word {c} {b} o = record { wide = p.wide; bits = λ i h. ap (λ x. cond x (bit r s i) (bit r t i)) (o.bits 0 (omega arith)) ∙ ap₂ (cond b) (p.bits i h) (q.bits i h) }

  module _ {t : Tree} {w : ℕ} {f : Word} (p : IsWord t w f) where
    pub all_word : IsWord (ReduceAnd t) 1 (λ i. all_below f w)
    all_word = record { wide = refl; bits = λ i h. ap (all_below (bit r t)) p.wide ∙ same_all (bit r t) f w p.bits }

    pub any_word : IsWord (ReduceOr t) 1 (λ i. any_below f w)
    any_word = record { wide = refl; bits = λ i h. ap (any_below (bit r t)) p.wide ∙ same_any (bit r t) f w p.bits }

    pub odd_word : IsWord (ReduceXor t) 1 (λ i. odd_below f w)
    odd_word = record { wide = refl; bits = λ i h. ap (odd_below (bit r t)) p.wide ∙ same_odd (bit r t) f w p.bits }

    pub truth_word : IsWord (truth w t) 1 (λ i. any_below f w)
    truth_word = go (w == 1) refl
      where
        go : (v : Bool) → (w == 1) ≡ v → IsWord (cond v t (ReduceOr t)) 1 (λ i. any_below f w)
        go true e = let one : w ≡ 1 = eqb-true w 1 e in
            subst (λ (n : ℕ). IsWord t 1 (λ i. any_below f n)) (sym one)
            (record { wide = p.wide ∙ one; bits = λ i h. let z : i ≡ 0 = omega arith in p.bits i (omega arith) ∙ ap f z })
        go false e = any_word

    pub slice_word : (at n : ℕ) → at + n ≤ w → IsWord (Slice t at n) n (λ i. f (at + i))
    slice_word at n h = record { wide = refl; bits = λ i l. p.bits (at + i) (omega arith) }

    pub fit_word : (W : ℕ) → w ≤ W → IsWord (fit W w t) W (padded w f)
    fit_word W h = by_lt (λ v. IsWord (cond v (Extend t W) t) W (padded w f)) w W
        (λ l. record {
          wide = refl;
          bits = λ i m. ap (λ n. cond (nat_lt i n) (bit r t i) false) p.wide
              ∙ by_lt (λ v. cond v (bit r t i) false ≡ (v && f i)) i w (λ k. p.bits i k) (λ k. refl);
        })
        (λ l. let e : w ≡ W = omega arith in record { wide = p.wide ∙ e; bits = λ i m. p.bits i (omega arith) ∙ sym (at_lt i w (omega arith) (f i)) })

    pub cut_word : (at n : ℕ) → at + n ≤ w → IsWord (cut w at n t) n (λ i. f (at + i))
    cut_word at n h = go (w == n) refl
      where
        go : (v : Bool) → (w == n) ≡ v → IsWord (cond v t (Slice t at n)) n (λ i. f (at + i))
        go true e = let one : w ≡ n = eqb-true w n e in record { wide = p.wide ∙ one; bits = λ i l. p.bits i (omega arith) ∙ ap f (let z : i ≡ at + i = omega arith in z) }
        go false e = slice_word at n h

    module _ {by : Tree} {v : ℕ} {g : Word} (q : IsWord by v g) where
      pub shl_word : IsWord (Shl t by) w (λ i. cond (nat_lt i (number g v)) false (f (i - number g v)))
      shl_word = record {
        wide = p.wide;
        bits = λ i h.
            ap₂ (λ n m. cond (nat_lt i n) false (cond (nat_lt (i - n) m) (bit r t (i - n)) false)) (number_of q) p.wide
            ∙ ap (cond (nat_lt i (number g v)) false) (ap (λ x. cond x (bit r t (i - number g v)) false) (lt-ltb (i - number g v) w (omega arith)) ∙ p.bits (i - number g v) (omega arith));
      }

      pub shr_word : IsWord (Shr t by) w (λ i. cond (nat_lt (i + number g v) w) (f (i + number g v)) false)
      shr_word = record {
        wide = p.wide;
        bits = λ i h.
            ap₂ (λ n m. cond (nat_lt (i + n) m) (bit r t (i + n)) false) (number_of q) p.wide
            ∙ by_lt (λ x. cond x (bit r t (i + number g v)) false ≡ cond x (f (i + number g v)) false) (i + number g v) w (λ l. p.bits (i + number g v) l) (λ l. refl);
      }

  pub glue_word : {s t : Tree} {m n : ℕ} {f g : Word} → IsWord s m f → IsWord t n g → m + n ≤ 255 → IsWord (glue m s n t) (m + n) (cat f n g)
  glue_word {s} {t} {m} {n} {f} {g} p q room = go (n == 0) (m == 0) refl refl
    where
      go : (u v : Bool) → (n == 0) ≡ u → (m == 0) ≡ v → IsWord (cond u s (cond v t (Concat s t))) (m + n) (cat f n g)
      go true v d e = let z : n ≡ 0 = eqb-true n 0 d in record {
        wide = p.wide ∙ (let y : m ≡ m + n = omega arith in y);
        bits = λ i h.
            p.bits i (omega arith) ∙ by_lt (λ x. f i ≡ cond x (g i) (f (i - n))) i n (λ l. never 0 (omega arith)) (λ l. ap f (let y : i ≡ i - n = omega arith in y));
      }
      go false true d e = let z : m ≡ 0 = eqb-true m 0 e in record {
        wide = q.wide ∙ (let y : n ≡ m + n = omega arith in y);
        bits = λ i h.
            q.bits i (omega arith) ∙ by_lt (λ x. g i ≡ cond x (g i) (f (i - n))) i n (λ l. refl) (λ l. never 0 (omega arith));
      }
      go false false d e = record {
        wide = ap₂ (λ x y. min (x + y) 255) p.wide q.wide ∙ (let y : min (m + n) 255 ≡ m + n = omega arith in y);
        bits = λ i h.
            ap (λ k. cond (nat_lt i k) (bit r t i) (bit r s (i - k))) q.wide
            ∙ by_lt (λ x. cond x (bit r t i) (bit r s (i - n)) ≡ cond x (g i) (f (i - n))) i n (λ l. q.bits i l) (λ l. p.bits (i - n) (omega arith));
      }

  pub empty_word : (f : Word) → IsWord (Const 0 0) 0 f
  empty_word f = record { wide = refl; bits = λ i h. never 0 (omega arith) }

  pub copies_word : {t : Tree} {w : ℕ} {f : Word} → IsWord t w f → (n : ℕ) → n * w ≤ 255 → IsWord (copies_tree n w t) (n * w) (copies n w f)
  copies_word {t} {w} {f} p zero room = subst (λ (k : ℕ). IsWord (Const 0 0) k (λ i. false)) (sym (zero-mul w)) (empty_word (λ i. false))
  copies_word {t} {w} {f} p (suc n) room =
      let k = suc-mul n w in let q = glue_word p (copies_word p n (omega arith)) (omega arith) in
      subst (λ (k : ℕ). IsWord (glue w t (n * w) (copies_tree n w t)) k (cat f (n * w) (copies n w f))) (add_comm w (n * w) ∙ sym (suc-mul n w)) q
