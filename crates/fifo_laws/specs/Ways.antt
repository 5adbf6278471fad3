-- The ways from a node down its feeds: what each of them passes, and where one of them leads.
use Rattle.std.specs.Prelude.{◌≡◌, ◌⊎◌, ℕ, suc, ◌+◌, ◌-◌, ◌<◌, Bool, true, false, nat_lt, Option, Some, None, List}
use Rattle.cdc_base.specs.declared.bit.Bit.{Bit}
use Rattle.cell_graph.specs.Tree.{Tree, Var, Const, Not, And, Or, Xor, Add, Sub, Eq, Lt, Shl, Shr, Mux, Concat, Slice, Extend, ReduceAnd, ReduceOr, ReduceXor, width}
use Rattle.cell_graph.specs.Origin.{const_of}
use Rattle.fifo_terms.specs.Terms.{Term, terms}

-- What is looked for on ways: bits of words at their ends, reads of words, and terms that have a test.
pub record Marks : Type 1 where
  pub word : Bit → Type 0
  pub read : Tree → ℕ → Type 0
  pub test : List Term → Type 0

abbrev pub If : Bool → (then other : Type 0) → Type 0
If true P Q = P
If false P Q = Q

-- P holds of each number below n, or of one
abbrev pub Below : ℕ → (ℕ → Type 0) → Type 0
Below n P = (j : ℕ) → j < n → P j

abbrev pub SomeBelow : ℕ → (ℕ → Type 0) → Type 0
SomeBelow n P = (j : ℕ) × (j < n) × P j

-- what is asked of bit i of a word of w bits that is moved by a constant: that of the bit passed, or nothing; by another amount, that of all bits
abbrev pub MovedUp : Option ℕ → (i w : ℕ) → (all none : Type 0) → (ℕ → Type 0) → Type 0
MovedUp None i w all none P = all
MovedUp (Some n) i w all none P = If (nat_lt i n) none (If (nat_lt (i - n) w) (P (i - n)) none)

abbrev pub MovedDown : Option ℕ → (i w : ℕ) → (all none : Type 0) → (ℕ → Type 0) → Type 0
MovedDown None i w all none P = all
MovedDown (Some n) i w all none P = If (nat_lt (i + n) w) (P (i + n)) none

-- into a feed: it is a guard, and what holds behind one holds of it, or else what held so far
abbrev pub Into : (guard behind before : Type 0) → Type 0
Into guard behind before = (guard × behind) ⊎ before

-- each way from bit i of a tree down its feeds to a word's bit passes a read, and above it a guard where none was passed so far: a branch of a Mux, or an
-- operand of And or Or, where the condition's or the other operand's terms have a test
abbrev pub Passes : Marks → (guarded : Bool) → Tree → ℕ → Type 0
Passes m g (Var sig w) i = m.word (record { sig = sig; at = i }) → ⊥
Passes m g (Const w v) i = Unit {0}
Passes m g (Not a) i = Passes m g a i
Passes m g (And a b) i = Into (m.test (terms b i true)) (Passes m true a i) (Passes m g a i) × Into (m.test (terms a i true)) (Passes m true b i) (Passes m g b i)
Passes m g (Or a b) i = Into (m.test (terms b i false)) (Passes m true a i) (Passes m g a i) × Into (m.test (terms a i false)) (Passes m true b i) (Passes m g b i)
Passes m g (Xor a b) i = Passes m g a i × Passes m g b i
Passes m g (Add a b) i = Below (suc i) (λ j. Passes m g a j × Passes m g b j)
Passes m g (Sub a b) i = Below (suc i) (λ j. Passes m g a j × Passes m g b j)
Passes m g (Eq a b) i = Below (width a) (λ j. Passes m g a j × Passes m g b j)
Passes m g (Lt a b) i = Below (width a) (λ j. Passes m g a j × Passes m g b j)
Passes m g (Shl a by) i = MovedUp (const_of by) i (width a) (Below (width a) (λ j. Passes m g a j) × Below (width by) (λ j. Passes m g by j)) (Unit {0}) (λ j. Passes m g a j)
Passes m g (Shr a by) i = MovedDown (const_of by) i (width a) (Below (width a) (λ j. Passes m g a j) × Below (width by) (λ j. Passes m g by j)) (Unit {0}) (λ j. Passes m g a j)
Passes m g (Mux c x y) i = ((g ≡ true) × m.read (Mux c x y) i)
    ⊎ (Passes m g c 0 × Into (m.test (terms c 0 true)) (Passes m true x i) (Passes m g x i) × Into (m.test (terms c 0 false)) (Passes m true y i) (Passes m g y i))
Passes m g (Concat high low) i = If (nat_lt i (width low)) (Passes m g low i) (Passes m g high (i - width low))
Passes m g (Slice a at w) i = Passes m g a (at + i)
Passes m g (Extend a w) i = If (nat_lt i (width a)) (Passes m g a i) (Unit {0})
Passes m g (ReduceAnd a) i = Below (width a) (λ j. Passes m g a j)
Passes m g (ReduceOr a) i = Below (width a) (λ j. Passes m g a j)
Passes m g (ReduceXor a) i = Below (width a) (λ j. Passes m g a j)

-- some way from bit i of a tree down its feeds comes to a Mux of which P holds
abbrev pub Leads : (P : Tree → ℕ → Type 0) → Tree → ℕ → Type 0
Leads P (Var sig w) i = ⊥
Leads P (Const w v) i = ⊥
Leads P (Not a) i = Leads P a i
Leads P (And a b) i = Leads P a i ⊎ Leads P b i
Leads P (Or a b) i = Leads P a i ⊎ Leads P b i
Leads P (Xor a b) i = Leads P a i ⊎ Leads P b i
Leads P (Add a b) i = SomeBelow (suc i) (λ j. Leads P a j ⊎ Leads P b j)
Leads P (Sub a b) i = SomeBelow (suc i) (λ j. Leads P a j ⊎ Leads P b j)
Leads P (Eq a b) i = SomeBelow (width a) (λ j. Leads P a j ⊎ Leads P b j)
Leads P (Lt a b) i = SomeBelow (width a) (λ j. Leads P a j ⊎ Leads P b j)
Leads P (Shl a by) i = MovedUp (const_of by) i (width a) (SomeBelow (width a) (λ j. Leads P a j) ⊎ SomeBelow (width by) (λ j. Leads P by j)) ⊥ (λ j. Leads P a j)
Leads P (Shr a by) i = MovedDown (const_of by) i (width a) (SomeBelow (width a) (λ j. Leads P a j) ⊎ SomeBelow (width by) (λ j. Leads P by j)) ⊥ (λ j. Leads P a j)
Leads P (Mux c x y) i = P (Mux c x y) i ⊎ (Leads P c 0 ⊎ (Leads P x i ⊎ Leads P y i))
Leads P (Concat high low) i = If (nat_lt i (width low)) (Leads P low i) (Leads P high (i - width low))
Leads P (Slice a at w) i = Leads P a (at + i)
Leads P (Extend a w) i = If (nat_lt i (width a)) (Leads P a i) ⊥
Leads P (ReduceAnd a) i = SomeBelow (width a) (λ j. Leads P a j)
Leads P (ReduceOr a) i = SomeBelow (width a) (λ j. Leads P a j)
Leads P (ReduceXor a) i = SomeBelow (width a) (λ j. Leads P a j)
