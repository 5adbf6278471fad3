-- Trees of cells, and their value in a reading, bit by bit. A width is a byte.
use Rattle.std.specs.Prelude.{ℕ, zero, suc, ◌+◌, ◌-◌, ◌^◌, ◌/◌, ◌%◌, min, Bool, true, false, cond, not, ◌&&◌, ◌||◌, ◌==◌, nat_lt}
use Rattle.cell_graph.specs.Reading.{Reading}

pub data Tree : Type 0 where
  Var : (sig width : ℕ) → Tree
  Const : (width value : ℕ) → Tree
  Not : Tree → Tree
  And : Tree → Tree → Tree
  Or : Tree → Tree → Tree
  Xor : Tree → Tree → Tree
  Add : Tree → Tree → Tree
  Sub : Tree → Tree → Tree
  Eq : Tree → Tree → Tree
  Lt : Tree → Tree → Tree
  Shl : (a by : Tree) → Tree
  Shr : (a by : Tree) → Tree
  Mux : (c x y : Tree) → Tree
  Concat : (high low : Tree) → Tree
  Slice : (a : Tree) (at width : ℕ) → Tree
  Extend : (a : Tree) (width : ℕ) → Tree
  ReduceAnd : Tree → Tree
  ReduceOr : Tree → Tree
  ReduceXor : Tree → Tree

abbrev pub width : Tree → ℕ
width (Var sig w) = w
width (Const w v) = w
width (Not a) = width a
width (And a b) = width a
width (Or a b) = width a
width (Xor a b) = width a
width (Add a b) = width a
width (Sub a b) = width a
width (Eq a b) = 1
width (Lt a b) = 1
width (Shl a by) = width a
width (Shr a by) = width a
width (Mux c x y) = width x
width (Concat high low) = min (width high + width low) 255
width (Slice a at w) = w
width (Extend a w) = w
width (ReduceAnd a) = 1
width (ReduceOr a) = 1
width (ReduceXor a) = 1

-- bit i of a number
abbrev pub bit_at : ℕ → ℕ → Bool
bit_at n i = (n / 2 ^ i) % 2 == 1

-- the number that the low w bits make
abbrev pub number : (ℕ → Bool) → ℕ → ℕ
number f zero = 0
number f (suc w) = number f w + cond (f w) (2 ^ w) 0

abbrev pub all_below : (ℕ → Bool) → ℕ → Bool
all_below f zero = true
all_below f (suc w) = all_below f w && f w

abbrev pub any_below : (ℕ → Bool) → ℕ → Bool
any_below f zero = false
any_below f (suc w) = any_below f w || f w

abbrev pub odd_below : (ℕ → Bool) → ℕ → Bool
odd_below f zero = false
odd_below f (suc w) = cond (f w) (not (odd_below f w)) (odd_below f w)

-- bit i of the tree's value; a sum's and a difference's bit comes of the bits up to it
abbrev pub bit : Reading → Tree → ℕ → Bool
bit r (Var sig w) i = r (record { sig = sig; at = i })
bit r (Const w v) i = bit_at v i
bit r (Not a) i = not (bit r a i)
bit r (And a b) i = bit r a i && bit r b i
bit r (Or a b) i = bit r a i || bit r b i
bit r (Xor a b) i = cond (bit r a i) (not (bit r b i)) (bit r b i)
bit r (Add a b) i = bit_at (number (bit r a) (suc i) + number (bit r b) (suc i)) i
bit r (Sub a b) i = bit_at (2 ^ suc i + number (bit r a) (suc i) - number (bit r b) (suc i)) i
bit r (Eq a b) i = all_below (λ j. not (cond (bit r a j) (not (bit r b j)) (bit r b j))) (width a)
bit r (Lt a b) i = nat_lt (number (bit r a) (width a)) (number (bit r b) (width a))
bit r (Shl a by) i = let n = number (bit r by) (width by) in cond (nat_lt i n) false (cond (nat_lt (i - n) (width a)) (bit r a (i - n)) false)
bit r (Shr a by) i = let n = number (bit r by) (width by) in cond (nat_lt (i + n) (width a)) (bit r a (i + n)) false
bit r (Mux c x y) i = cond (bit r c 0) (bit r x i) (bit r y i)
bit r (Concat high low) i = cond (nat_lt i (width low)) (bit r low i) (bit r high (i - width low))
bit r (Slice a at w) i = bit r a (at + i)
bit r (Extend a w) i = cond (nat_lt i (width a)) (bit r a i) false
bit r (ReduceAnd a) i = all_below (bit r a) (width a)
bit r (ReduceOr a) i = any_below (bit r a) (width a)
bit r (ReduceXor a) i = odd_below (bit r a) (width a)
