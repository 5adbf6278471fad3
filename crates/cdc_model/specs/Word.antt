-- The words of counters and of their Gray codes, by the origins of their bits.
use Rattle.std.specs.Prelude.{◌≡◌, ℕ, zero, suc, ◌<◌, ◌≤◌, Bool, false, Some, None, List, [], ◌∷◌, ◌⊎◌, map}
use Rattle.cell_graph.specs.Reading.{Reading}
use Rattle.cell_graph.specs.Tree.{Tree, Var, Xor, Add, Mux}
use Rattle.cell_graph.specs.Cofactor.{known}
use Rattle.cell_graph.specs.Origin.{TreeBit, origin, tree_bit}

-- the n bits of a tree from bit i on
abbrev pub cells : Tree → ℕ → ℕ → List TreeBit
cells t i zero = []
cells t i (suc n) = Some (t, i) ∷ cells t (suc i) n

-- the origins of these bits
abbrev pub origins : Tree → ℕ → ℕ → List TreeBit
origins t i zero = []
origins t i (suc n) = origin t i ∷ origins t (suc i) n

-- the bits of a register itself
abbrev pub own_word : ℕ → ℕ → List TreeBit
own_word sig w = cells (Var sig w) 0 w

-- the addend 0 or 1: all bits but the lowest are known 0
abbrev pub IsStepOfOne : Tree → ℕ → Type 0
IsStepOfOne b w = (i : ℕ) → 1 ≤ i → i < w → known [] b i ≡ Some false

-- A count word: the own word, a plus word, or a choice between count words.
pub data IsCount (sig w : ℕ) : List TreeBit → Type 0 where
  Own : IsCount sig w (own_word sig w)
  Plus : (a b : Tree) → (origins a 0 w ≡ own_word sig w × IsStepOfOne b w) ⊎ (origins b 0 w ≡ own_word sig w × IsStepOfOne a w) → IsCount sig w (cells (Add a b) 0 w)
  Choose : (c x y : Tree) → IsCount sig w (origins x 0 w) → IsCount sig w (origins y 0 w) → IsCount sig w (cells (Mux c x y) 0 w)

-- the bit is zero, or known 0
abbrev pub IsZero : Tree → ℕ → Type 0
IsZero t k = (origin t k ≡ None) ⊎ (known [] t k ≡ Some false)

-- the exclusive or of two bits, in either order
abbrev pub IsXorOf : TreeBit → TreeBit → TreeBit → Type 0
IsXorOf g x y = (a : Tree) × (b : Tree) × (k : ℕ) × (g ≡ Some (Xor a b, k)) × ((origin a k ≡ x × origin b k ≡ y) ⊎ (origin a k ≡ y × origin b k ≡ x))

-- the bit itself, or its exclusive or with a zero
abbrev pub IsTopOf : TreeBit → TreeBit → Type 0
IsTopOf g x = (g ≡ x) ⊎ ((a : Tree) × (b : Tree) × (k : ℕ) × (g ≡ Some (Xor a b, k)) × ((origin a k ≡ x × IsZero b k) ⊎ (origin b k ≡ x × IsZero a k)))

-- a Gray word of a word: each bit is the exclusive or of two neighbours, and the highest the highest
abbrev pub IsGrayWord : List TreeBit → List TreeBit → Type 0
IsGrayWord [] [] = Unit {0}
IsGrayWord [] (x ∷ xs) = ⊥
IsGrayWord (g ∷ gs) [] = ⊥
IsGrayWord (g ∷ []) (x ∷ []) = IsTopOf g x
IsGrayWord (g ∷ h ∷ gs) (x ∷ []) = ⊥
IsGrayWord (g ∷ gs) (x ∷ y ∷ xs) = IsXorOf g x y × IsGrayWord gs (y ∷ xs)

-- A joint pair: a count word and a Gray word of it, both own words, or a choice by one condition between joint pairs.
pub data IsJoint (b g w : ℕ) : List TreeBit → List TreeBit → Type 0 where
  Coded : {n m : List TreeBit} → IsCount b w n → IsGrayWord m n → IsJoint b g w n m
  Stay : IsJoint b g w (own_word b w) (own_word g w)
  Both : (c e x y u v : Tree) → origin c 0 ≡ origin e 0 → IsJoint b g w (origins x 0 w) (origins u 0 w) → IsJoint b g w (origins y 0 w) (origins v 0 w)
      → IsJoint b g w (cells (Mux c x y) 0 w) (cells (Mux e u v) 0 w)

-- the values of the bits in a reading
abbrev pub values : Reading → List TreeBit → List Bool
values r ns = map (tree_bit r) ns
