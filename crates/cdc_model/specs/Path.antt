-- The path of a crossing: from a next value down to the bit that it reads.
use Rattle.std.specs.Prelude.{◌≡◌, ℕ, zero, suc, ◌+◌, ◌-◌, Bool, true, cond, ◌||◌, nat_lt, List, [], ◌∷◌}
use Rattle.cdc_base.specs.declared.bit.Bit.{Bit}
use Rattle.cell_graph.specs.Tree.{Tree, Var, Const, Not, And, Or, Xor, Add, Sub, Eq, Lt, Shl, Shr, Mux, Concat, Slice, Extend, ReduceAnd, ReduceOr, ReduceXor, width, any_below}
use Rattle.cell_graph.specs.Cofactor.{on_number, reads}
use Rattle.cell_graph.specs.Origin.{const_of}

-- the least number below n of which the test holds
abbrev pub first_below : (ℕ → Bool) → ℕ → ℕ
first_below f zero = 0
first_below f (suc n) = cond (any_below f n) (first_below f n) n

-- from each bit to its feed of least number that reads b
abbrev pub path : Tree → ℕ → Bit → List (Tree × ℕ)
path (Var sig w) i b = (Var sig w, i) ∷ []
path (Const w v) i b = (Const w v, i) ∷ []
path (Not x) i b = (Not x, i) ∷ path x i b
path (And x y) i b = (And x y, i) ∷ cond (reads [] x i b) (path x i b) (path y i b)
path (Or x y) i b = (Or x y, i) ∷ cond (reads [] x i b) (path x i b) (path y i b)
path (Xor x y) i b = (Xor x y, i) ∷ cond (reads [] x i b) (path x i b) (path y i b)
path (Add x y) i b = (Add x y, i) ∷ (let j = first_below (λ j. reads [] x j b || reads [] y j b) (suc i) in cond (reads [] x j b) (path x j b) (path y j b))
path (Sub x y) i b = (Sub x y, i) ∷ (let j = first_below (λ j. reads [] x j b || reads [] y j b) (suc i) in cond (reads [] x j b) (path x j b) (path y j b))
path (Eq x y) i b = (Eq x y, i) ∷ (let j = first_below (λ j. reads [] x j b || reads [] y j b) (width x) in cond (reads [] x j b) (path x j b) (path y j b))
path (Lt x y) i b = (Lt x y, i) ∷ (let j = first_below (λ j. reads [] x j b || reads [] y j b) (width x) in cond (reads [] x j b) (path x j b) (path y j b))
path (Shl x by) i b = (Shl x by, i) ∷ on_number (const_of by)
    (cond (any_below (λ j. reads [] x j b) (width x)) (path x (first_below (λ j. reads [] x j b) (width x)) b) (path by (first_below (λ j. reads [] by j b) (width by)) b))
    (λ n. path x (i - n) b)
path (Shr x by) i b = (Shr x by, i) ∷ on_number (const_of by)
    (cond (any_below (λ j. reads [] x j b) (width x)) (path x (first_below (λ j. reads [] x j b) (width x)) b) (path by (first_below (λ j. reads [] by j b) (width by)) b))
    (λ n. path x (i + n) b)
path (Mux c x y) i b = (Mux c x y, i) ∷ cond (reads [] c 0 b) (path c 0 b) (cond (reads [] x i b) (path x i b) (path y i b))
path (Concat high low) i b = (Concat high low, i) ∷ cond (nat_lt i (width low)) (path low i b) (path high (i - width low) b)
path (Slice x at w) i b = (Slice x at w, i) ∷ path x (at + i) b
path (Extend x w) i b = (Extend x w, i) ∷ path x i b
path (ReduceAnd x) i b = (ReduceAnd x, i) ∷ path x (first_below (λ j. reads [] x j b) (width x)) b
path (ReduceOr x) i b = (ReduceOr x, i) ∷ path x (first_below (λ j. reads [] x j b) (width x)) b
path (ReduceXor x) i b = (ReduceXor x, i) ∷ path x (first_below (λ j. reads [] x j b) (width x)) b

-- each bit reads b, and the last one is b
abbrev pub IsPathTo : Bit → List (Tree × ℕ) → Type 0
IsPathTo b [] = ⊥
IsPathTo b (n ∷ []) = (w : ℕ) × (n ≡ (Var b.sig w, b.at))
IsPathTo b (n ∷ m ∷ ns) = (reads [] n.0 n.1 b ≡ true) × IsPathTo b (m ∷ ns)
