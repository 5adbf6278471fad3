-- The terms under which a bit of a tree has a value.
use Rattle.std.specs.Prelude.{◌≡◌, ◌⊎◌, ℕ, zero, suc, ◌+◌, ◌-◌, Bool, true, false, cond, not, ◌||◌, ◌==◌, nat_lt, Option, Some, None, List, [], ◌∷◌, ◌++◌}
use Rattle.std.specs.Bool.{beq}
use Rattle.std.specs.List.{Contains, list_all}
use Rattle.cell_graph.specs.Reading.{Reading}
use Rattle.cell_graph.specs.Tree.{Tree, Not, And, Or, Xor, Eq, Shl, Shr, Concat, Slice, Extend, ReduceAnd, ReduceOr, width}
use Rattle.cell_graph.specs.Cofactor.{known, on_number}
use Rattle.cell_graph.specs.Origin.{TreeBit, const_of, tree_bit}
use Rattle.cdc_model.specs.Gray.{exclusive_or}

-- a node is v, or two nodes differ by v
pub data Term : Type 0 where
  Is : (n : TreeBit) (v : Bool) → Term
  Differ : (a b : TreeBit) (v : Bool) → Term

abbrev pub holds : Reading → Term → Bool
holds r (Is n v) = beq (tree_bit r n) v
holds r (Differ a b v) = beq (exclusive_or (tree_bit r a) (tree_bit r b)) v

abbrev pub all_hold : Reading → List Term → Bool
all_hold r ts = list_all (holds r) ts

-- terms are one where their nodes, in either order, and their values are
abbrev pub AreOne : Term → Term → Type 0
AreOne (Is n v) (Is m u) = (n ≡ m) × (v ≡ u)
AreOne (Differ a b v) (Differ c d u) = (((a ≡ c) × (b ≡ d)) ⊎ ((a ≡ d) × (b ≡ c))) × (v ≡ u)
AreOne (Is n v) (Differ c d u) = ⊥
AreOne (Differ a b v) (Is m u) = ⊥

abbrev pub HasTerm : List Term → Term → Type 0
HasTerm ts t = (u : Term) × Contains ts u × AreOne t u

-- the one list has the terms of the other
abbrev pub HaveOneSet : List Term → List Term → Type 0
HaveOneSet ts us = ((t : Term) → Contains ts t → HasTerm us t) × ((t : Term) → Contains us t → HasTerm ts t)

-- what is had for bit i of a word of w bits, moved up or down by a constant: at a bit of the word, or for zero; by another amount, for the bit itself
abbrev pub moved_up : {A : Type 0} → Option ℕ → ℕ → ℕ → (own zero : A) → (ℕ → A) → A
moved_up by i w own none at = on_number by own (λ n. cond (nat_lt i n) none (cond (nat_lt (i - n) w) (at (i - n)) none))

abbrev pub moved_down : {A : Type 0} → Option ℕ → ℕ → ℕ → (own zero : A) → (ℕ → A) → A
moved_down by i w own none at = on_number by own (λ n. cond (nat_lt (i + n) w) (at (i + n)) none)

-- of two bits where one is known (the first, if both): what that value makes of the other one; else the last
abbrev pub beside_known : {A : Type 0} → Option Bool → Option Bool → (second first : Bool → A) → A → A
beside_known (Some c) o second first neither = second c
beside_known None (Some c) second first neither = first c
beside_known None None second first neither = neither

-- a node, inverted or as it is
pub record Bare : Type 0 where
  pub node : TreeBit
  pub inverted : Bool

abbrev pub inverted_by : Bool → Bare → Bare
inverted_by v b = record { node = b.node; inverted = exclusive_or v b.inverted }

abbrev pub as_it_is : TreeBit → Bare
as_it_is n = record { node = n; inverted = false }

-- what the origin of a bit is below Nots and below Xors with a known side
abbrev pub bare : Tree → ℕ → Bare
bare (Not a) i = inverted_by true (bare a i)
bare (Xor a b) i = beside_known (known [] a i) (known [] b i) (λ c. inverted_by c (bare b i)) (λ c. inverted_by c (bare a i)) (as_it_is (Some (Xor a b, i)))
bare (Concat high low) i = cond (nat_lt i (width low)) (bare low i) (bare high (i - width low))
bare (Slice a at w) i = bare a (at + i)
bare (Extend a w) i = cond (nat_lt i (width a)) (bare a i) (as_it_is None)
bare (Shl a by) i = moved_up (const_of by) i (width a) (as_it_is (Some (Shl a by, i))) (as_it_is None) (λ j. bare a j)
bare (Shr a by) i = moved_down (const_of by) i (width a) (as_it_is (Some (Shr a by, i))) (as_it_is None) (λ j. bare a j)
bare t i = as_it_is (Some (t, i))

-- one term on two bare nodes
abbrev pub differ : Bare → Bare → Bool → List Term
differ a b v = Differ a.node b.node (exclusive_or (exclusive_or a.inverted b.inverted) v) ∷ []

-- the terms that bits i of two trees differ by v, by the terms of either at each value
abbrev pub differing : Tree → Tree → ℕ → (first second : Bool → List Term) → Bool → List Term
differing a b i first second v = beside_known (known [] a i) (known [] b i) (λ c. second (exclusive_or c v)) (λ c. first (exclusive_or c v)) (differ (bare a i) (bare b i) v)

-- those of each number below w
abbrev pub each_below : (ℕ → List Term) → ℕ → List Term
each_below f zero = []
each_below f (suc w) = each_below f w ++ f w

-- no terms, where the bit is known to be v
abbrev pub unless_known : Option Bool → Bool → List Term → List Term
unless_known (Some k) v ts = cond (beq k v) [] ts
unless_known None v ts = ts

-- the one term that the node itself is v
abbrev pub itself : Tree → ℕ → Bool → List Term
itself t i v = Is (Some (t, i)) v ∷ []

-- the terms of the zero bit
abbrev pub zero_terms : Bool → List Term
zero_terms v = cond v (Is None true ∷ []) []

-- the terms of bit i of a tree at v, by its origin
abbrev pub terms : Tree → ℕ → Bool → List Term
terms (Not a) i v = unless_known (known [] (Not a) i) v (terms a i (not v))
terms (And a b) i v = unless_known (known [] (And a b) i) v (cond v (terms a i v ++ terms b i v) (itself (And a b) i v))
terms (Or a b) i v = unless_known (known [] (Or a b) i) v (cond v (itself (Or a b) i v) (terms a i v ++ terms b i v))
terms (Xor a b) i v = unless_known (known [] (Xor a b) i) v (differing a b i (λ u. terms a i u) (λ u. terms b i u) v)
terms (Eq a b) i v = unless_known (known [] (Eq a b) i) v
    (cond (v || (width a == 1)) (each_below (λ j. differing a b j (λ u. terms a j u) (λ u. terms b j u) (not v)) (width a)) (itself (Eq a b) i v))
terms (Concat high low) i v = cond (nat_lt i (width low)) (terms low i v) (terms high (i - width low) v)
terms (Slice a at w) i v = terms a (at + i) v
terms (Extend a w) i v = cond (nat_lt i (width a)) (terms a i v) (zero_terms v)
terms (Shl a by) i v = moved_up (const_of by) i (width a) (unless_known (known [] (Shl a by) i) v (itself (Shl a by) i v)) (zero_terms v) (λ j. terms a j v)
terms (Shr a by) i v = moved_down (const_of by) i (width a) (unless_known (known [] (Shr a by) i) v (itself (Shr a by) i v)) (zero_terms v) (λ j. terms a j v)
terms (ReduceAnd a) i v = unless_known (known [] (ReduceAnd a) i) v (cond v (each_below (λ j. terms a j v) (width a)) (itself (ReduceAnd a) i v))
terms (ReduceOr a) i v = unless_known (known [] (ReduceOr a) i) v (cond v (itself (ReduceOr a) i v) (each_below (λ j. terms a j v) (width a)))
terms t i v = unless_known (known [] t i) v (itself t i v)
