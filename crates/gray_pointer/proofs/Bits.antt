-- Words of origins, bit by bit.
use Rattle.std.proofs.Common.{◌≡◌, ◌∙◌, sym, ap, ap₂, refl, subst, inl, inr, ◌⊎◌, arith, ℕ, zero, suc, ◌+◌, ◌<◌, ◌≤◌, List, [], ◌∷◌, Some, None}
use Rattle.cell_graph.specs.Tree.{Tree}
use Rattle.cell_graph.specs.Origin.{TreeBit, origin}
use Rattle.cdc_model.specs.Word.{cells, origins, IsXorOf, IsTopOf, IsGrayWord}

-- n bits from bit i on
abbrev pub bits : {A : Type 0} → (ℕ → A) → ℕ → ℕ → List A
bits f i zero = []
bits f i (suc n) = f i ∷ bits f (suc i) n

-- the bits of a tree itself
abbrev pub own_bit : Tree → ℕ → TreeBit
own_bit t i = Some (t, i)

pub origins_are : (t : Tree) (i n : ℕ) → origins t i n ≡ bits (origin t) i n
origins_are t i zero = refl
origins_are t i (suc n) = ap (λ xs. origin t i ∷ xs) (origins_are t (suc i) n)

pub cells_are : (t : Tree) (i n : ℕ) → cells t i n ≡ bits (own_bit t) i n
cells_are t i zero = refl
cells_are t i (suc n) = ap (λ xs. own_bit t i ∷ xs) (cells_are t (suc i) n)

-- the least of what is from a on, or what is behind it
pub first_or_later : (a b : ℕ) → a ≤ b → (a ≡ b) ⊎ (suc a ≤ b)
first_or_later zero zero l = inl refl
first_or_later zero (suc b) l = inr (omega arith)
first_or_later (suc a) zero l = absurd (omega arith)
first_or_later (suc a) (suc b) l = later (first_or_later a b (omega arith))
  where
    later : (a ≡ b) ⊎ (suc a ≤ b) → (suc a ≡ suc b) ⊎ (suc (suc a) ≤ suc b)
    later (inl e) = inl (ap suc e)
    later (inr k) = inr (omega arith)

pub each_same : {A : Type 0} (f h : ℕ → A) (i n : ℕ) → bits f i n ≡ bits h i n → (j : ℕ) → i ≤ j → j < i + n → f j ≡ h j
each_same f h i zero e j l m = absurd (omega arith)
each_same f h i (suc n) e j l m = go (first_or_later i j l) (λ k. each_same f h (suc i) n (let e : bits f (suc i) n ≡ bits h (suc i) n = cc in e) j k (omega arith))
  where
    go : (i ≡ j) ⊎ (suc i ≤ j) → (suc i ≤ j → f j ≡ h j) → f j ≡ h j
    go (inl s) ih = subst (λ k. f k ≡ h k) s (let e : f i ≡ h i = cc in e)
    go (inr k) ih = ih k

pub same_each : (f h : ℕ → TreeBit) (i n : ℕ) → ((j : ℕ) → i ≤ j → j < i + n → f j ≡ h j) → bits f i n ≡ bits h i n
same_each f h i zero e = refl
same_each f h i (suc n) e = ap₂ (λ x xs. x ∷ xs) (e i (omega arith) (omega arith)) (same_each f h (suc i) n (λ j l m. e j (omega arith) (omega arith)))

-- the word of a tree is the bits of another, where each of its bits is
pub each_own : (t u : Tree) (w : ℕ) → origins t 0 w ≡ cells u 0 w → (j : ℕ) → j < w → origin t j ≡ Some (u, j)
each_own t u w e j l = each_same (origin t) (own_bit u) 0 w (sym (origins_are t 0 w) ∙ e ∙ cells_are u 0 w) j (omega arith) (omega arith)

pub own_each : (t u : Tree) (w : ℕ) → ((j : ℕ) → j < w → origin t j ≡ Some (u, j)) → origins t 0 w ≡ cells u 0 w
own_each t u w e = origins_are t 0 w ∙ same_each (origin t) (own_bit u) 0 w (λ j l m. e j (omega arith)) ∙ sym (cells_are u 0 w)

-- the tree and the place of a bit
abbrev pub tree_in : Tree → TreeBit → Tree
tree_in t None = t
tree_in t (Some b) = b.0

abbrev pub place_in : TreeBit → ℕ
place_in None = 0
place_in (Some b) = b.1

abbrev pub first_in : List TreeBit → TreeBit
first_in [] = None
first_in (b ∷ bs) = b

pub same_tree : (t u : Tree) (i j : ℕ) → own_bit t i ≡ own_bit u j → t ≡ u
same_tree t u i j e = ap (tree_in t) e

pub same_place : (t u : Tree) (i j : ℕ) → own_bit t i ≡ own_bit u j → i ≡ j
same_place t u i j e = ap place_in e

-- the bits of two trees are equal where the trees are
pub cells_tell : (t u : Tree) (w : ℕ) → 1 ≤ w → cells t 0 w ≡ cells u 0 w → t ≡ u
cells_tell t u zero l e = absurd (omega arith)
cells_tell t u (suc w) l e = ap (λ ns. tree_in t (first_in ns)) e

-- ---- Gray words

-- each bit but the last is that of an exclusive or of two neighbours, and the last that of the last
pub record AreCodeBits (f h : ℕ → TreeBit) (i n : ℕ) : Type 0 where
  pub pairs : (j : ℕ) → i ≤ j → j < i + n → IsXorOf (f j) (h j) (h (suc j))
  pub top : IsTopOf (f (i + n)) (h (i + n))

pub code_bits : (f h : ℕ → TreeBit) (i n : ℕ) → IsGrayWord (bits f i (suc n)) (bits h i (suc n)) → AreCodeBits f h i n
code_bits f h i zero g = record { pairs = λ j l m. absurd (omega arith); top = subst (λ k. IsTopOf (f k) (h k)) (let e : i ≡ i + 0 = omega arith in e) g }
code_bits f h i (suc n) g = let rest = code_bits f h (suc i) n g.1 in record {
  pairs = λ j l m. go j l m (first_or_later i j l) rest.pairs;
  top = subst (λ k. IsTopOf (f k) (h k)) (let e : suc i + n ≡ i + suc n = omega arith in e) rest.top;
}
  where
    go : (j : ℕ) → i ≤ j → j < i + suc n → (i ≡ j) ⊎ (suc i ≤ j) → ((j : ℕ) → suc i ≤ j → j < suc i + n → IsXorOf (f j) (h j) (h (suc j))) → IsXorOf (f j) (h j) (h (suc j))
    go j l m (inl s) rest = subst (λ k. IsXorOf (f k) (h k) (h (suc k))) s g.0
    go j l m (inr k) rest = rest j k (omega arith)

pub code_word : (f h : ℕ → TreeBit) (i n : ℕ) → AreCodeBits f h i n → IsGrayWord (bits f i (suc n)) (bits h i (suc n))
code_word f h i zero c = subst (λ k. IsTopOf (f k) (h k)) (let e : i + 0 ≡ i = omega arith in e) c.top
code_word f h i (suc n) c = (
  c.pairs i (omega arith) (omega arith),
  code_word f h (suc i) n (record {
    pairs = λ j l m. c.pairs j (omega arith) (omega arith);
    top = subst (λ k. IsTopOf (f k) (h k)) (let e : i + suc n ≡ suc i + n = omega arith in e) c.top;
  }),
)
