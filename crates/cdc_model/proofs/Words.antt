-- What count words and Gray words give in each reading.
use Rattle.std.proofs.Common.{◌≡◌, ℕ, zero, suc, ◌+◌, ◌*◌, ◌^◌, ◌/◌, ◌%◌, ◌<◌, ◌≤◌, Bool, true, false, cond, not, ◌&&◌, ◌==◌, Option, List, [], ◌∷◌, ◌⊎◌, inl, inr, refl, sym, ap, ap₂, subst, ◌∙◌, arith, pow-suc, pow_pos, add-zero, zero-add, add_comm}
use Rattle.std.proofs.lemmas.Nat.{div-mul-add}
use Rattle.std.proofs.lemmas.Bool.{and_parts}
use Rattle.cell_graph.specs.Reading.{Reading}
use Rattle.cell_graph.specs.Tree.{Tree, Add, Mux, bit_at, bit, number, all_below}
use Rattle.cell_graph.specs.Origin.{TreeBit, tree_bit}
use Rattle.cell_graph.proofs.OriginSound.{origin_sound}
use Rattle.cell_graph.proofs.Sound.{known_sound, Knows}
use Rattle.cdc_model.specs.Gray.{increment, gray_code, exclusive_or}
use Rattle.cdc_model.specs.Word.{cells, origins, own_word, IsStepOfOne, IsCount, Own, Plus, Choose, IsZero, IsXorOf, IsTopOf, IsGrayWord, IsJoint, Coded, Stay, Both, values}

-- ---- numbers

bit_split : (n a b i : ℕ) → n ≡ a * 2 ^ i + b → b < 2 ^ i → bit_at n i ≡ (a % 2 == 1)
bit_split n a b i e h = ap (λ x. x % 2 == 1) (ap (λ x. x / 2 ^ i) e ∙ div-mul-add a (2 ^ i) b h)

number_below : (f : ℕ → Bool) (i : ℕ) → number f i < 2 ^ i
number_below f zero = omega arith
number_below f (suc i) = rw pow-suc (go (f i) (number_below f i))
  where
    go : (v : Bool) → number f i < 2 ^ i → number f i + cond v (2 ^ i) 0 < 2 ^ i * 2
    go true h = omega arith
    go false h = omega arith

number_full : (f : ℕ → Bool) (i : ℕ) → all_below f i ≡ true → number f i + 1 ≡ 2 ^ i
number_full f zero h = refl
number_full f (suc i) h =
    let p = and_parts (all_below f i) (f i) h in
    let e : number f i + 1 ≡ 2 ^ i = number_full f i p.0 in
    rw pow-suc (subst (λ (v : Bool). number f i + cond v (2 ^ i) 0 + 1 ≡ 2 ^ i * 2) (sym p.1) (omega arith))

number_short : (f : ℕ → Bool) (i : ℕ) → all_below f i ≡ false → number f i + 1 < 2 ^ i
number_short f zero h = cc
number_short f (suc i) h = rw pow-suc (go (all_below f i) (f i) refl (number_short f i) (number_below f i) h)
  where
    go : (a v : Bool) → all_below f i ≡ a → (all_below f i ≡ false → number f i + 1 < 2 ^ i) → number f i < 2 ^ i → (a && v) ≡ false → number f i + cond v (2 ^ i) 0 + 1 < 2 ^ i * 2
    go true true e ih l h = cc
    go true false e ih l h = omega (arith, pow_pos i)
    go false true e ih l h = let k = ih e in omega arith
    go false false e ih l h = let k = ih e in omega arith

-- a bit of the sum with 0 or 1
sum_bit : (f : ℕ → Bool) (c : Bool) (i : ℕ) → bit_at (number f (suc i) + cond c 1 0) i ≡ exclusive_or (f i) (c && all_below f i)
sum_bit f c i = go (f i) c (all_below f i) (number_below f i) (number_full f i) (number_short f i)
  where
    go : (v c a : Bool) → number f i < 2 ^ i → (a ≡ true → number f i + 1 ≡ 2 ^ i) → (a ≡ false → number f i + 1 < 2 ^ i)
        → bit_at (number f i + cond v (2 ^ i) 0 + cond c 1 0) i ≡ exclusive_or v (c && a)
    go true true true l full short = let e = full refl in bit_split (number f i + 2 ^ i + 1) 2 0 i (omega arith) (omega arith)
    go true true false l full short = let e = short refl in bit_split (number f i + 2 ^ i + 1) 1 (number f i + 1) i (omega arith) (omega arith)
    go true false a l full short = bit_split (number f i + 2 ^ i + 0) 1 (number f i) i (omega arith) (omega arith)
    go false true true l full short = let e = full refl in bit_split (number f i + 0 + 1) 1 0 i (omega arith) (omega arith)
    go false true false l full short = let e = short refl in bit_split (number f i + 0 + 1) 0 (number f i + 1) i (omega arith) (omega arith)
    go false false a l full short = bit_split (number f i + 0 + 0) 0 (number f i) i (omega arith) (omega arith)

-- ---- words

abbrev inc_by : Bool → List Bool → List Bool
inc_by c [] = []
inc_by c (b ∷ bs) = exclusive_or b c ∷ inc_by (c && b) bs

inc_none : (bs : List Bool) → inc_by false bs ≡ bs
inc_none [] = refl
inc_none (true ∷ bs) = ap (λ x. true ∷ x) (inc_none bs)
inc_none (false ∷ bs) = ap (λ x. false ∷ x) (inc_none bs)

inc_one : (bs : List Bool) → inc_by true bs ≡ increment bs
inc_one [] = refl
inc_one (true ∷ bs) = ap (λ x. false ∷ x) (inc_one bs)
inc_one (false ∷ bs) = ap (λ x. true ∷ x) (inc_none bs)

and_assoc : (a b c : Bool) → (a && (b && c)) ≡ ((a && b) && c)
and_assoc true b c = refl
and_assoc false b c = refl

abbrev bits_of : (ℕ → Bool) → ℕ → ℕ → List Bool
bits_of f i zero = []
bits_of f i (suc n) = f i ∷ bits_of f (suc i) n

sum_bits : (f : ℕ → Bool) (c : Bool) (i n : ℕ) → bits_of (λ j. bit_at (number f (suc j) + cond c 1 0) j) i n ≡ inc_by (c && all_below f i) (bits_of f i n)
sum_bits f c i zero = refl
sum_bits f c i (suc n) = ap₂ (λ x xs. x ∷ xs) (sum_bit f c i)
    (sum_bits f c (suc i) n ∙ ap (λ v. inc_by v (bits_of f (suc i) n)) (and_assoc c (all_below f i) (f i)))

same_bits : (f g : ℕ → Bool) (i n : ℕ) → ((j : ℕ) → i ≤ j → j < i + n → f j ≡ g j) → bits_of f i n ≡ bits_of g i n
same_bits f g i zero h = refl
same_bits f g i (suc n) h = ap₂ (λ x xs. x ∷ xs) (h i (omega arith) (omega arith)) (same_bits f g (suc i) n (λ j l m. h j (omega arith) (omega arith)))

one_low : (g : ℕ → Bool) (i : ℕ) → ((j : ℕ) → 1 ≤ j → j < suc i → g j ≡ false) → number g (suc i) ≡ cond (g 0) 1 0
one_low g zero h = zero-add (cond (g 0) 1 0)
one_low g (suc i) h = ap₂ (λ x v. x + cond v (2 ^ suc i) 0) (one_low g i (λ j l m. h j l (omega arith))) (h (suc i) (omega arith) (omega arith)) ∙ add-zero (cond (g 0) 1 0)

-- the sum of a word and 0 or 1 is the word or the next one
sum_word : (f g : ℕ → Bool) (w : ℕ) → ((j : ℕ) → 1 ≤ j → j < w → g j ≡ false)
    → (bits_of (λ j. bit_at (number f (suc j) + number g (suc j)) j) 0 w ≡ bits_of f 0 w)
    ⊎ (bits_of (λ j. bit_at (number f (suc j) + number g (suc j)) j) 0 w ≡ increment (bits_of f 0 w))
sum_word f g w h = go (g 0) refl
  where
    low : bits_of (λ j. bit_at (number f (suc j) + number g (suc j)) j) 0 w ≡ inc_by (g 0 && true) (bits_of f 0 w)
    low = same_bits (λ j. bit_at (number f (suc j) + number g (suc j)) j) (λ j. bit_at (number f (suc j) + cond (g 0) 1 0) j) 0 w
        (λ j l m. ap (λ x. bit_at (number f (suc j) + x) j) (one_low g j (λ k l' m'. h k l' (omega arith))))
        ∙ sum_bits f (g 0) 0 w

    go : (v : Bool) → g 0 ≡ v
        → (bits_of (λ j. bit_at (number f (suc j) + number g (suc j)) j) 0 w ≡ bits_of f 0 w)
        ⊎ (bits_of (λ j. bit_at (number f (suc j) + number g (suc j)) j) 0 w ≡ increment (bits_of f 0 w))
    go true e = inr (low ∙ ap (λ v. inc_by (v && true) (bits_of f 0 w)) e ∙ inc_one (bits_of f 0 w))
    go false e = inl (low ∙ ap (λ v. inc_by (v && true) (bits_of f 0 w)) e ∙ inc_none (bits_of f 0 w))

swap_sum : (f g : ℕ → Bool) (w : ℕ) → bits_of (λ j. bit_at (number f (suc j) + number g (suc j)) j) 0 w ≡ bits_of (λ j. bit_at (number g (suc j) + number f (suc j)) j) 0 w
swap_sum f g w = same_bits (λ j. bit_at (number f (suc j) + number g (suc j)) j) (λ j. bit_at (number g (suc j) + number f (suc j)) j) 0 w
    (λ j l m. ap (λ x. bit_at x j) (add_comm (number f (suc j)) (number g (suc j))))

module _ (r : Reading) where
  cells_are : (t : Tree) (i n : ℕ) → values r (cells t i n) ≡ bits_of (bit r t) i n
  cells_are t i zero = refl
  cells_are t i (suc n) = ap (λ xs. bit r t i ∷ xs) (cells_are t (suc i) n)

  origins_are : (t : Tree) (i n : ℕ) → values r (origins t i n) ≡ bits_of (bit r t) i n
  origins_are t i zero = refl
  origins_are t i (suc n) = ap₂ (λ x xs. x ∷ xs) (sym (origin_sound r t i)) (origins_are t (suc i) n)

  chosen_cells : (c x y : Tree) (i n : ℕ) → values r (cells (Mux c x y) i n) ≡ cond (bit r c 0) (values r (origins x i n)) (values r (origins y i n))
  chosen_cells c x y i n = cells_are (Mux c x y) i n ∙ go (bit r c 0) ∙ ap₂ (cond (bit r c 0)) (sym (origins_are x i n)) (sym (origins_are y i n))
    where
      go : (v : Bool) → bits_of (λ j. cond v (bit r x j) (bit r y j)) i n ≡ cond v (bits_of (bit r x) i n) (bits_of (bit r y) i n)
      go true = refl
      go false = refl

  not_known : (b : Tree) (w : ℕ) → IsStepOfOne b w → (j : ℕ) → 1 ≤ j → j < w → bit r b j ≡ false
  not_known b w h j l m = subst (λ (o : Option Bool). Knows o (bit r b j)) (h j l m) (known_sound [] r tt b j)

  -- a count word is the count or the next one
  pub count_sound : (sig w : ℕ) (n : List TreeBit) → IsCount sig w n → (values r n ≡ values r (own_word sig w)) ⊎ (values r n ≡ increment (values r (own_word sig w)))
  count_sound sig w n Own = inl refl
  count_sound sig w n (Plus a b (inl h)) = go (sum_word (bit r a) (bit r b) w (not_known b w h.1))
    where
      own : bits_of (bit r a) 0 w ≡ values r (own_word sig w)
      own = sym (origins_are a 0 w) ∙ ap (values r) h.0

      go : (bits_of (bit r (Add a b)) 0 w ≡ bits_of (bit r a) 0 w) ⊎ (bits_of (bit r (Add a b)) 0 w ≡ increment (bits_of (bit r a) 0 w))
          → (values r (cells (Add a b) 0 w) ≡ values r (own_word sig w)) ⊎ (values r (cells (Add a b) 0 w) ≡ increment (values r (own_word sig w)))
      go (inl e) = inl (cells_are (Add a b) 0 w ∙ e ∙ own)
      go (inr e) = inr (cells_are (Add a b) 0 w ∙ e ∙ ap increment own)
  count_sound sig w n (Plus a b (inr h)) = go (sum_word (bit r b) (bit r a) w (not_known a w h.1))
    where
      own : bits_of (bit r b) 0 w ≡ values r (own_word sig w)
      own = sym (origins_are b 0 w) ∙ ap (values r) h.0

      go : (bits_of (bit r (Add b a)) 0 w ≡ bits_of (bit r b) 0 w) ⊎ (bits_of (bit r (Add b a)) 0 w ≡ increment (bits_of (bit r b) 0 w))
          → (values r (cells (Add a b) 0 w) ≡ values r (own_word sig w)) ⊎ (values r (cells (Add a b) 0 w) ≡ increment (values r (own_word sig w)))
      go (inl e) = inl (cells_are (Add a b) 0 w ∙ swap_sum (bit r a) (bit r b) w ∙ e ∙ own)
      go (inr e) = inr (cells_are (Add a b) 0 w ∙ swap_sum (bit r a) (bit r b) w ∙ e ∙ ap increment own)
  count_sound sig w n (Choose c x y h k) = go (bit r c 0) refl (count_sound sig w (origins x 0 w) h) (count_sound sig w (origins y 0 w) k)
    where
      is : (v : Bool) → bit r c 0 ≡ v → values r (cells (Mux c x y) 0 w) ≡ cond v (values r (origins x 0 w)) (values r (origins y 0 w))
      is v e = chosen_cells c x y 0 w ∙ ap (λ v. cond v (values r (origins x 0 w)) (values r (origins y 0 w))) e

      go : (v : Bool) → bit r c 0 ≡ v → (values r (origins x 0 w) ≡ values r (own_word sig w)) ⊎ (values r (origins x 0 w) ≡ increment (values r (own_word sig w)))
          → (values r (origins y 0 w) ≡ values r (own_word sig w)) ⊎ (values r (origins y 0 w) ≡ increment (values r (own_word sig w)))
          → (values r (cells (Mux c x y) 0 w) ≡ values r (own_word sig w)) ⊎ (values r (cells (Mux c x y) 0 w) ≡ increment (values r (own_word sig w)))
      go true e (inl h) k = inl (is true e ∙ h)
      go true e (inr h) k = inr (is true e ∙ h)
      go false e h (inl k) = inl (is false e ∙ k)
      go false e h (inr k) = inr (is false e ∙ k)

  xor_sound : (g x y : TreeBit) → IsXorOf g x y → tree_bit r g ≡ exclusive_or (tree_bit r x) (tree_bit r y)
  xor_sound g x y (a, b, k, e, inl h) = ap (tree_bit r) e ∙ ap₂ (λ v w. cond v (not w) w) (origin_sound r a k ∙ ap (tree_bit r) h.0) (origin_sound r b k ∙ ap (tree_bit r) h.1)
  xor_sound g x y (a, b, k, e, inr h) = ap (tree_bit r) e ∙ ap₂ (λ v w. cond v (not w) w) (origin_sound r a k ∙ ap (tree_bit r) h.0) (origin_sound r b k ∙ ap (tree_bit r) h.1)
      ∙ swapped (tree_bit r x) (tree_bit r y)
    where
      swapped : (v w : Bool) → cond w (not v) v ≡ exclusive_or v w
      swapped true true = refl
      swapped true false = refl
      swapped false true = refl
      swapped false false = refl

  zero_sound : (t : Tree) (k : ℕ) → IsZero t k → bit r t k ≡ false
  zero_sound t k (inl h) = origin_sound r t k ∙ ap (tree_bit r) h
  zero_sound t k (inr h) = subst (λ (o : Option Bool). Knows o (bit r t k)) h (known_sound [] r tt t k)

  top_sound : (g x : TreeBit) → IsTopOf g x → tree_bit r g ≡ tree_bit r x
  top_sound g x (inl e) = ap (tree_bit r) e
  top_sound g x (inr (a, b, k, e, inl h)) = ap (tree_bit r) e ∙ ap₂ (λ v w. cond v (not w) w) (origin_sound r a k ∙ ap (tree_bit r) h.0) (zero_sound b k h.1) ∙ with_zero (tree_bit r x)
    where
      with_zero : (v : Bool) → cond v true false ≡ v
      with_zero true = refl
      with_zero false = refl
  top_sound g x (inr (a, b, k, e, inr h)) = ap (tree_bit r) e ∙ ap₂ (λ v w. cond v (not w) w) (zero_sound a k h.1) (origin_sound r b k ∙ ap (tree_bit r) h.0)

  -- a Gray word is the code of its count
  pub gray_sound : (m n : List TreeBit) → IsGrayWord m n → values r m ≡ gray_code (values r n)
  gray_sound [] [] h = refl
  gray_sound [] (x ∷ xs) h = absurd h
  gray_sound (g ∷ gs) [] h = absurd h
  gray_sound (g ∷ []) (x ∷ []) h = ap (λ v. v ∷ []) (top_sound g x h)
  gray_sound (g ∷ h ∷ gs) (x ∷ []) k = absurd k
  gray_sound (g ∷ gs) (x ∷ y ∷ xs) h = ap₂ (λ v vs. v ∷ vs) (xor_sound g x y h.0) (gray_sound gs (y ∷ xs) h.1)

  -- joint words: the code of the next count, or both as they are
  pub joint_sound : (b g w : ℕ) (n m : List TreeBit) → IsJoint b g w n m → (values r m ≡ gray_code (values r n)) ⊎ ((values r n ≡ values r (own_word b w)) × (values r m ≡ values r (own_word g w)))
  joint_sound b g w n m (Coded c k) = inl (gray_sound m n k)
  joint_sound b g w n m Stay = inr (refl, refl)
  joint_sound b g w n m (Both c e x y u v same h k) =
      subst (λ (ns : List Bool). (values r m ≡ gray_code ns) ⊎ ((ns ≡ values r (own_word b w)) × (values r m ≡ values r (own_word g w)))) (sym (chosen_cells c x y 0 w))
      (subst (λ (ms : List Bool). (ms ≡ gray_code (cond (bit r c 0) (values r (origins x 0 w)) (values r (origins y 0 w)))) ⊎ ((cond (bit r c 0) (values r (origins x 0 w)) (values r (origins y 0 w)) ≡ values r (own_word b w)) × (ms ≡ values r (own_word g w))))
      (ap (λ t. cond t (values r (origins u 0 w)) (values r (origins v 0 w))) (origin_sound r c 0 ∙ ap (tree_bit r) same ∙ sym (origin_sound r e 0)) ∙ sym (chosen_cells e u v 0 w))
      (go (bit r c 0) (joint_sound b g w (origins x 0 w) (origins u 0 w) h) (joint_sound b g w (origins y 0 w) (origins v 0 w) k)))
    where
      go : (t : Bool) → (values r (origins u 0 w) ≡ gray_code (values r (origins x 0 w))) ⊎ ((values r (origins x 0 w) ≡ values r (own_word b w)) × (values r (origins u 0 w) ≡ values r (own_word g w)))
          → (values r (origins v 0 w) ≡ gray_code (values r (origins y 0 w))) ⊎ ((values r (origins y 0 w) ≡ values r (own_word b w)) × (values r (origins v 0 w) ≡ values r (own_word g w)))
          → (cond t (values r (origins u 0 w)) (values r (origins v 0 w)) ≡ gray_code (cond t (values r (origins x 0 w)) (values r (origins y 0 w))))
          ⊎ ((cond t (values r (origins x 0 w)) (values r (origins y 0 w)) ≡ values r (own_word b w)) × (cond t (values r (origins u 0 w)) (values r (origins v 0 w)) ≡ values r (own_word g w)))
      go true h k = h
      go false h k = k
