-- Indexes: where a count's low bits are those of a word's number, and which word a read chooses.
use Rattle.std.proofs.Common.{◌≡◌, ◌≢◌, ℕ, zero, suc, ◌+◌, ◌-◌, ◌*◌, ◌/◌, ◌%◌, ◌^◌, ◌<◌, ◌≤◌, ◌==◌, Bool, true, false, cond, Some, List, [], ◌∷◌, length, map, ◌⊎◌, inl, inr, refl, sym, ap, ap₂, subst, ◌∙◌, arith, pow-suc}
use Rattle.std.specs.Prelude.{slice_get}
use Rattle.std.specs.Bool.{beq}
use Rattle.std.proofs.lemmas.Bool.{and_parts, and_from, false_from_ne_true, cases_lt, eqb-false, eqb-true}
use Rattle.std.proofs.Math.Nat.{div-add-mod, div-div-eq-div-mul, mod-add-div, mod-eq_of_lt, mul-add-mod_self_left}
use Rattle.std.proofs.lemmas.Nat.{pow_pos}
use Rattle.cdc_base.specs.declared.bit.Bit.{Bit}
use Rattle.cell_graph.specs.Reading.{Reading}
use Rattle.cell_graph.specs.Tree.{bit, bit_at}
use Rattle.cell_graph.specs.Origin.{TreeBit, origin, tree_bit}
use Rattle.cell_graph.proofs.OriginSound.{origin_sound}
use Rattle.cdc_model.specs.Design.{Design, bits_from}
use Rattle.fifo_terms.specs.Counts.{binary}
use Rattle.fifo_terms.specs.Terms.{all_hold, terms}
use Rattle.fifo_terms.proofs.Same.{same_hold}
use Rattle.fifo_terms.proofs.Terms.{terms_sound, beq_true, beq_refl}
use Rattle.fifo_laws.specs.Sides.{Side, side_width}
use Rattle.fifo_laws.specs.Words.{low_bits, index_terms, depth_of, Chooses}

-- ---- bits of numbers

lowest : (n : ℕ) → bit_at n 0 ≡ (n % 2 == 1)
lowest n = ap (λ k. k % 2 == 1) (let e : n / 2 ^ 0 ≡ n = omega arith in e)

next_bit : (n i : ℕ) → bit_at n (suc i) ≡ bit_at (n / 2) i
next_bit n i = ap (λ k. k % 2 == 1) (ap (λ m. n / m) (let e : 2 ^ suc i ≡ 2 * 2 ^ i = (let p = pow-suc 2 i in omega (arith, p)) in e) ∙ sym (div-div-eq-div-mul n 2 (2 ^ i)))

-- a word that holds a number has its bits
pub binary_bits : (r : Reading) (sig i w n j k : ℕ) → map r (bits_from sig i w) ≡ binary w n → k ≡ i + j → j < w → r (record { sig = sig; at = k }) ≡ bit_at n j
binary_bits r sig i zero n j k e p l = absurd (omega (arith, l))
binary_bits r sig i (suc w) n zero k e p l = ap (λ m. r (record { sig = sig; at = m })) (let q : k ≡ i = omega (arith, p) in q)
    ∙ (let h : r (record { sig = sig; at = i }) ≡ (n % 2 == 1) = cc in h) ∙ sym (lowest n)
binary_bits r sig i (suc w) n (suc j) k e p l =
    let f : map r (bits_from sig (suc i) w) ≡ binary w (n / 2) = cc in
    binary_bits r sig (suc i) w (n / 2) j k f (omega (arith, p)) (omega (arith, l)) ∙ sym (next_bit n j)

split : (n m : ℕ) → 1 ≤ m → n % (2 * m) ≡ n % 2 + 2 * (n / 2 % m)
split n m l =
    let h = div-add-mod (n / 2) m in
    let b : n / 2 % m < m = omega (arith, l) in
    let e : n ≡ 2 * m * (n / 2 / m) + (n % 2 + 2 * (n / 2 % m)) = omega (arith, h) in
    ap (λ k. k % (2 * m)) e ∙ mul-add-mod_self_left (2 * m) (n / 2 / m) (n % 2 + 2 * (n / 2 % m)) ∙ mod-eq_of_lt (let f : n % 2 + 2 * (n / 2 % m) < 2 * m = omega (arith, b) in f)

split_power : (n m : ℕ) → n % 2 ^ suc m ≡ n % 2 + 2 * (n / 2 % 2 ^ m)
split_power n m = ap (λ k. n % k) (let e : 2 ^ suc m ≡ 2 * 2 ^ m = (let p = pow-suc 2 m in omega (arith, p)) in e) ∙ split n (2 ^ m) (pow_pos m)

same_parity : (m n : ℕ) → (m % 2 == 1) ≡ (n % 2 == 1) → m % 2 ≡ n % 2
same_parity m n e = go (m % 2 == 1) (n % 2 == 1) refl refl e
  where
    go : (a b : Bool) → (m % 2 == 1) ≡ a → (n % 2 == 1) ≡ b → a ≡ b → m % 2 ≡ n % 2
    go true true p q r = eqb-true (m % 2) 1 p ∙ sym (eqb-true (n % 2) 1 q)
    go true false p q r = cc
    go false true p q r = cc
    go false false p q r = let u : m % 2 ≢ 1 = eqb-false (m % 2) 1 p in let v : n % 2 ≢ 1 = eqb-false (n % 2) 1 q in omega (arith, u, v)

-- numbers with the same low bits
pub same_low : (m n k : ℕ) → ((j : ℕ) → j < m → bit_at n j ≡ bit_at k j) → n % 2 ^ m ≡ k % 2 ^ m
same_low zero n k h = omega arith
same_low (suc m) n k h =
    let p : n % 2 ≡ k % 2 = same_parity n k (sym (lowest n) ∙ h 0 (omega arith) ∙ lowest k) in
    let q : n / 2 % 2 ^ m ≡ k / 2 % 2 ^ m = same_low m (n / 2) (k / 2) (λ j l. sym (next_bit n j) ∙ h (suc j) (omega (arith, l)) ∙ next_bit k j) in
    split_power n m ∙ ap₂ (λ x y. x + 2 * y) p q ∙ sym (split_power k m)

pub low_same : (m n k : ℕ) → n % 2 ^ m ≡ k % 2 ^ m → (j : ℕ) → j < m → bit_at n j ≡ bit_at k j
low_same zero n k e j l = absurd (omega (arith, l))
low_same (suc m) n k e j l = go (λ i. low_same m (n / 2) (k / 2) q i) j l
  where
    f : n % 2 + 2 * (n / 2 % 2 ^ m) ≡ k % 2 + 2 * (k / 2 % 2 ^ m)
    f = sym (split_power n m) ∙ e ∙ split_power k m

    p : n % 2 ≡ k % 2
    p = omega (arith, f)

    q : n / 2 % 2 ^ m ≡ k / 2 % 2 ^ m
    q = omega (arith, f, p)

    go : ((i : ℕ) → i < m → bit_at (n / 2) i ≡ bit_at (k / 2) i) → (j : ℕ) → j < suc m → bit_at n j ≡ bit_at k j
    go ih zero l = lowest n ∙ ap (λ x. x == 1) p ∙ sym (lowest k)
    go ih (suc i) l = next_bit n i ∙ ih i (omega (arith, l)) ∙ sym (next_bit k i)

-- ---- terms of an index

beq_same : (a b : Bool) → beq a b ≡ true → a ≡ b
beq_same true true h = refl
beq_same true false h = cc
beq_same false true h = cc
beq_same false false h = refl

pub low_hold : (r : Reading) (sig w m n : ℕ) → all_hold r (low_bits sig w m n) ≡ true → (j : ℕ) → j < m → r (record { sig = sig; at = j }) ≡ bit_at n j
low_hold r sig w zero n h j l = absurd (omega (arith, l))
low_hold r sig w (suc m) n h j l = go (λ k. low_hold r sig w m n p.1 j k) (j == m) refl
  where
    p : (beq (r (record { sig = sig; at = m })) (bit_at n m) ≡ true) × (all_hold r (low_bits sig w m n) ≡ true)
    p = and_parts (beq (r (record { sig = sig; at = m })) (bit_at n m)) (all_hold r (low_bits sig w m n)) h

    go : (j < m → r (record { sig = sig; at = j }) ≡ bit_at n j) → (b : Bool) → (j == m) ≡ b → r (record { sig = sig; at = j }) ≡ bit_at n j
    go ih true e = subst (λ (i : ℕ). r (record { sig = sig; at = i }) ≡ bit_at n i) (sym (eqb-true j m e)) (beq_same (r (record { sig = sig; at = m })) (bit_at n m) p.0)
    go ih false e = let ne : j ≢ m = eqb-false j m e in ih (omega (arith, l, ne))

pub hold_low : (r : Reading) (sig w m n : ℕ) → ((j : ℕ) → j < m → r (record { sig = sig; at = j }) ≡ bit_at n j) → all_hold r (low_bits sig w m n) ≡ true
hold_low r sig w zero n h = refl
hold_low r sig w (suc m) n h = and_from (beq (r (record { sig = sig; at = m })) (bit_at n m)) (all_hold r (low_bits sig w m n))
    (ap (λ b. beq b (bit_at n m)) (h m (omega arith)) ∙ beq_refl (bit_at n m)) (hold_low r sig w m n (λ j l. h j (omega (arith, l))))

module _ (d : Design) (s : Side) (r : Reading) (c : ℕ) (is : (j : ℕ) → j < side_width d s → r (record { sig = s.reg.count; at = j }) ≡ bit_at c j) where
  -- the terms of an index hold exactly where the count is there, modulo the depth
  pub index_is : (n : ℕ) → n < depth_of d s → all_hold r (index_terms d s n) ≡ true → c % depth_of d s ≡ n
  index_is n l h = same_low (side_width d s - 1) c n (λ j k. sym (is j (omega (arith, k))) ∙ low_hold r s.reg.count (side_width d s) (side_width d s - 1) n h j k) ∙ mod-eq_of_lt l

  pub is_index : (n : ℕ) → n < depth_of d s → c % depth_of d s ≡ n → all_hold r (index_terms d s n) ≡ true
  is_index n l e = hold_low r s.reg.count (side_width d s) (side_width d s - 1) n (λ j k. is j (omega (arith, k)) ∙ low_same (side_width d s - 1) c n (e ∙ sym (mod-eq_of_lt l)) j k)

  -- a read brings the word that the count is at
  pub chooses : (n : ℕ) (ms : List Bit) (x : TreeBit) → Chooses d s n ms x → n + length ms ≤ depth_of d s → (k : ℕ) (m : Bit) → slice_get ms k ≡ Some m → c % depth_of d s ≡ n + k → tree_bit r x ≡ r m
  chooses n [] x h fits k m e at = absurd h
  chooses n (a ∷ []) x h fits zero m e at = ap (tree_bit r) h ∙ ap r (let f : a ≡ m = cc in f)
  chooses n (a ∷ []) x h fits (suc k) m e at = cc
  chooses n (a ∷ b ∷ ms) x (t, u, v, i, is_mux, set, first, more) fits zero m e at =
      let chosen : bit r t 0 ≡ true = sym (beq_true (bit r t 0)) ∙ sym (terms_sound r t 0 true) ∙ same_hold r (terms t 0 true) (index_terms d s n) set ∙ is_index n (omega (arith, fits)) (omega (arith, at)) in
      ap (tree_bit r) is_mux ∙ ap (λ z. cond z (bit r u i) (bit r v i)) chosen ∙ origin_sound r u i ∙ ap (tree_bit r) first ∙ ap r (let f : a ≡ m = cc in f)
  chooses n (a ∷ b ∷ ms) x (t, u, v, i, is_mux, set, first, more) fits (suc k) m e at =
      let other : bit r t 0 ≡ false = false_from_ne_true (bit r t 0) (λ h.
      let f : c % depth_of d s ≡ n = index_is n (omega (arith, fits)) (sym (same_hold r (terms t 0 true) (index_terms d s n) set) ∙ terms_sound r t 0 true ∙ beq_true (bit r t 0) ∙ h) in
      omega (arith, f, at)) in
      ap (tree_bit r) is_mux ∙ ap (λ z. cond z (bit r u i) (bit r v i)) other ∙ origin_sound r v i ∙ chooses (suc n) (b ∷ ms) (origin v i) more (omega (arith, fits)) k m e (omega (arith, at))

-- ---- numbers a round apart

-- two numbers that are less than a round apart have different remainders
pub less_apart : (a b n : ℕ) → a < b → b < a + n → a % n ≡ b % n → ⊥
less_apart a b n l h e = go (cases_lt (a / n) (b / n))
  where
    f : a % n + n * (a / n) ≡ a
    f = mod-add-div a n

    g : b % n + n * (b / n) ≡ b
    g = mod-add-div b n

    go : (a / n < b / n) ⊎ (b / n ≤ a / n) → ⊥
    go (inl k) =
        let q = b / n - a / n - 1 in
        let p : b / n ≡ a / n + 1 + q = omega (arith, k) in
        let m : n * (b / n) ≡ n * (a / n + 1 + q) = ap (λ x. n * x) p in
        omega (arith, f, g, e, l, h, m)
    go (inr k) =
        let q = a / n - b / n in
        let p : a / n ≡ b / n + q = omega (arith, k) in
        let m : n * (a / n) ≡ n * (b / n + q) = ap (λ x. n * x) p in
        omega (arith, f, g, e, l, h, m)
