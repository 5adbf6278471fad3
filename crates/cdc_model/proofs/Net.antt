-- Trees of next values show what is so.
use Rattle.std.proofs.Common.{◌≡◌, ℕ, zero, suc, ◌+◌, ◌-◌, ◌<◌, ◌≤◌, Bool, true, false, cond, ◌||◌, ◌==◌, nat_lt, Option, Some, None, is_some, List, [], ◌∷◌, ◌++◌, Contains, ◌⊎◌, inl, inr, refl, sym, ap, ap₂, subst, ◌∙◌, arith, eqb-true, ltb-true}
use Rattle.std.specs.Bool.{beq}
use Rattle.std.proofs.lemmas.Bool.{or_cases, cases_eq}
use Rattle.std.proofs.lemmas.List.Elements.{Contains-append_left, Contains-append_right}
use Rattle.cdc_base.specs.declared.bit.Bit.{Bit}
use Rattle.cell_graph.specs.Reading.{bit_eq, Cube}
use Rattle.cell_graph.proofs.Bits.{bit_eq-true, bit_eq-refl}
use Rattle.cell_graph.specs.Tree.{Tree, Var, Const, Not, And, Or, Xor, Add, Sub, Eq, Lt, Shl, Shr, Mux, Concat, Slice, Extend, ReduceAnd, ReduceOr, ReduceXor, width, bit, any_below}
use Rattle.cell_graph.specs.Cofactor.{known_xor, chosen, known_number, on_number, known_all, known_any, known_odd, known, if_known_to_be, agreed_bit, same, reads_but, reads}
use Rattle.cell_graph.proofs.Sound.{Knows, known_sound, IsBit, same_sound, reads_sound}
use Rattle.cdc_model.specs.declared.scheme.GrayReg.{GrayReg}
use Rattle.cdc_model.specs.Design.{Design}
use Rattle.cdc_model.specs.Schemes.{AreTrees}
use Rattle.cdc_model.specs.GrayShape.{AreNextTrees, IsGrayReg}
use Rattle.cdc_model.specs.Nets.{trees_of}
use Rattle.cdc_model.proofs.GrayShape.{gray_reg_sound}

pub no_bit : {A : Type 0} (a : Bit) → None ≡ Some a → A
no_bit a h = cc

pub unless_none : (k : Option Bool) (o : Option Bit) (a : Bit) → cond (is_some k) None o ≡ Some a → (k ≡ None) × (o ≡ Some a)
unless_none None o a h = (refl, h)
unless_none (Some v) o a h = cc

but_is : (k : Option Bool) (o : Option Bit) (a b : Bit) (f : Bool) → k ≡ None → o ≡ Some a → reads_but k o b f ≡ bit_eq a b
but_is k o a b f e h = ap₂ (λ x y. reads_but x y b f) e h

module _ (cube : Cube) where
  -- a bit that is another one isn't known
  same_free : (t : Tree) (i : ℕ) (a : Bit) → same cube t i ≡ Some a → known cube t i ≡ None
  same_free (Var sig w) i a h = (unless_none (known cube (Var sig w) i) (Some (record { sig = sig; at = i })) a h).0
  same_free (Const w v) i a h = no_bit a h
  same_free (Not x) i a h = no_bit a h
  same_free (And x y) i a h = (unless_none (known cube (And x y) i) (if_known_to_be (known cube x i) true (same cube y i) (if_known_to_be (known cube y i) true (same cube x i) None)) a h).0
  same_free (Or x y) i a h = (unless_none (known cube (Or x y) i) (if_known_to_be (known cube x i) false (same cube y i) (if_known_to_be (known cube y i) false (same cube x i) None)) a h).0
  same_free (Xor x y) i a h = (unless_none (known cube (Xor x y) i) (if_known_to_be (known cube x i) false (same cube y i) (if_known_to_be (known cube y i) false (same cube x i) None)) a h).0
  same_free (Add x y) i a h = no_bit a h
  same_free (Sub x y) i a h = no_bit a h
  same_free (Eq x y) i a h = no_bit a h
  same_free (Lt x y) i a h = no_bit a h
  same_free (Shl x by) i a h = go (known_number (known cube by) (width by)) h (λ n. same_free x (i - n) a)
    where
      two : (u v : Bool) (n : ℕ) → cond u None (cond v (same cube x (i - n)) None) ≡ Some a → (same cube x (i - n) ≡ Some a → known cube x (i - n) ≡ None)
          → cond u (Some false) (cond v (known cube x (i - n)) (Some false)) ≡ None
      two true v n h ih = no_bit a h
      two false true n h ih = ih h
      two false false n h ih = no_bit a h

      go : (o : Option ℕ) → on_number o None (λ n. cond (nat_lt i n) None (cond (nat_lt (i - n) (width x)) (same cube x (i - n)) None)) ≡ Some a
          → ((n : ℕ) → same cube x (i - n) ≡ Some a → known cube x (i - n) ≡ None)
          → on_number o None (λ n. cond (nat_lt i n) (Some false) (cond (nat_lt (i - n) (width x)) (known cube x (i - n)) (Some false))) ≡ None
      go None h ih = refl
      go (Some n) h ih = two (nat_lt i n) (nat_lt (i - n) (width x)) n h (ih n)
  same_free (Shr x by) i a h = go (known_number (known cube by) (width by)) h (λ n. same_free x (i + n) a)
    where
      two : (v : Bool) (n : ℕ) → cond v (same cube x (i + n)) None ≡ Some a → (same cube x (i + n) ≡ Some a → known cube x (i + n) ≡ None)
          → cond v (known cube x (i + n)) (Some false) ≡ None
      two true n h ih = ih h
      two false n h ih = no_bit a h

      go : (o : Option ℕ) → on_number o None (λ n. cond (nat_lt (i + n) (width x)) (same cube x (i + n)) None) ≡ Some a
          → ((n : ℕ) → same cube x (i + n) ≡ Some a → known cube x (i + n) ≡ None)
          → on_number o None (λ n. cond (nat_lt (i + n) (width x)) (known cube x (i + n)) (Some false)) ≡ None
      go None h ih = refl
      go (Some n) h ih = two (nat_lt (i + n) (width x)) n h (ih n)
  same_free (Mux c x y) i a h = (unless_none (known cube (Mux c x y) i) (chosen (known cube c 0) (same cube x i) (same cube y i) (agreed_bit (same cube x i) (same cube y i))) a h).0
  same_free (Concat high low) i a h = go (nat_lt i (width low)) h (same_free low i a) (same_free high (i - width low) a)
    where
      go : (v : Bool) → cond v (same cube low i) (same cube high (i - width low)) ≡ Some a → (same cube low i ≡ Some a → known cube low i ≡ None)
          → (same cube high (i - width low) ≡ Some a → known cube high (i - width low) ≡ None) → cond v (known cube low i) (known cube high (i - width low)) ≡ None
      go true h l k = l h
      go false h l k = k h
  same_free (Slice x at w) i a h = same_free x (at + i) a h
  same_free (Extend x w) i a h = go (nat_lt i (width x)) h (same_free x i a)
    where
      go : (v : Bool) → cond v (same cube x i) None ≡ Some a → (same cube x i ≡ Some a → known cube x i ≡ None) → cond v (known cube x i) (Some false) ≡ None
      go true h ih = ih h
      go false h ih = no_bit a h
  same_free (ReduceAnd x) i a h = go (width x == 1) refl h (same_free x 0 a)
    where
      go : (v : Bool) → (width x == 1) ≡ v → cond v (same cube x 0) None ≡ Some a → (same cube x 0 ≡ Some a → known cube x 0 ≡ None) → known_all (known cube x) (width x) ≡ None
      go true e h ih = ap (known_all (known cube x)) (eqb-true (width x) 1 e) ∙ ih h
      go false e h ih = no_bit a h
  same_free (ReduceOr x) i a h = go (width x == 1) refl h (same_free x 0 a)
    where
      go : (v : Bool) → (width x == 1) ≡ v → cond v (same cube x 0) None ≡ Some a → (same cube x 0 ≡ Some a → known cube x 0 ≡ None) → known_any (known cube x) (width x) ≡ None
      go true e h ih = ap (known_any (known cube x)) (eqb-true (width x) 1 e) ∙ ih h
      go false e h ih = no_bit a h
  same_free (ReduceXor x) i a h = go (width x == 1) refl h (same_free x 0 a)
    where
      go : (v : Bool) → (width x == 1) ≡ v → cond v (same cube x 0) None ≡ Some a → (same cube x 0 ≡ Some a → known cube x 0 ≡ None) → known_odd (known cube x) (width x) ≡ None
      go true e h ih = ap (known_odd (known cube x)) (eqb-true (width x) 1 e) ∙ ap (λ o. known_xor o (Some false)) (ih h)
      go false e h ih = no_bit a h

  -- a bit that is another one reads that one alone
  pub reads_same : (t : Tree) (i : ℕ) (a : Bit) → same cube t i ≡ Some a → (b : Bit) → reads cube t i b ≡ bit_eq a b
  reads_same (Var sig w) i a h b = but_is (known cube (Var sig w) i) (same cube (Var sig w) i) a b false (same_free (Var sig w) i a h) h
  reads_same (Const w v) i a h b = no_bit a h
  reads_same (Not x) i a h b = no_bit a h
  reads_same (And x y) i a h b = but_is (known cube (And x y) i) (same cube (And x y) i) a b (reads cube x i b || reads cube y i b) (same_free (And x y) i a h) h
  reads_same (Or x y) i a h b = but_is (known cube (Or x y) i) (same cube (Or x y) i) a b (reads cube x i b || reads cube y i b) (same_free (Or x y) i a h) h
  reads_same (Xor x y) i a h b = but_is (known cube (Xor x y) i) (same cube (Xor x y) i) a b (reads cube x i b || reads cube y i b) (same_free (Xor x y) i a h) h
  reads_same (Add x y) i a h b = no_bit a h
  reads_same (Sub x y) i a h b = no_bit a h
  reads_same (Eq x y) i a h b = no_bit a h
  reads_same (Lt x y) i a h b = no_bit a h
  reads_same (Shl x by) i a h b = go (known_number (known cube by) (width by)) h (λ n k. reads_same x (i - n) a k b)
    where
      two : (u v : Bool) (n : ℕ) → cond u None (cond v (same cube x (i - n)) None) ≡ Some a → (same cube x (i - n) ≡ Some a → reads cube x (i - n) b ≡ bit_eq a b)
          → cond u false (cond v (reads cube x (i - n) b) false) ≡ bit_eq a b
      two true v n h ih = no_bit a h
      two false true n h ih = ih h
      two false false n h ih = no_bit a h

      go : (o : Option ℕ) → on_number o None (λ n. cond (nat_lt i n) None (cond (nat_lt (i - n) (width x)) (same cube x (i - n)) None)) ≡ Some a
          → ((n : ℕ) → same cube x (i - n) ≡ Some a → reads cube x (i - n) b ≡ bit_eq a b)
          → on_number o (any_below (λ j. reads cube x j b) (width x) || any_below (λ j. reads cube by j b) (width by)) (λ n. cond (nat_lt i n) false (cond (nat_lt (i - n) (width x)) (reads cube x (i - n) b) false)) ≡ bit_eq a b
      go None h ih = no_bit a h
      go (Some n) h ih = two (nat_lt i n) (nat_lt (i - n) (width x)) n h (ih n)
  reads_same (Shr x by) i a h b = go (known_number (known cube by) (width by)) h (λ n k. reads_same x (i + n) a k b)
    where
      two : (v : Bool) (n : ℕ) → cond v (same cube x (i + n)) None ≡ Some a → (same cube x (i + n) ≡ Some a → reads cube x (i + n) b ≡ bit_eq a b)
          → cond v (reads cube x (i + n) b) false ≡ bit_eq a b
      two true n h ih = ih h
      two false n h ih = no_bit a h

      go : (o : Option ℕ) → on_number o None (λ n. cond (nat_lt (i + n) (width x)) (same cube x (i + n)) None) ≡ Some a
          → ((n : ℕ) → same cube x (i + n) ≡ Some a → reads cube x (i + n) b ≡ bit_eq a b)
          → on_number o (any_below (λ j. reads cube x j b) (width x) || any_below (λ j. reads cube by j b) (width by)) (λ n. cond (nat_lt (i + n) (width x)) (reads cube x (i + n) b) false) ≡ bit_eq a b
      go None h ih = no_bit a h
      go (Some n) h ih = two (nat_lt (i + n) (width x)) n h (ih n)
  reads_same (Mux c x y) i a h b = but_is (known cube (Mux c x y) i) (same cube (Mux c x y) i) a b
      (chosen (known cube c 0) (reads cube x i b) (reads cube y i b) (reads cube c 0 b || (reads cube x i b || reads cube y i b))) (same_free (Mux c x y) i a h) h
  reads_same (Concat high low) i a h b = go (nat_lt i (width low)) h (λ k. reads_same low i a k b) (λ k. reads_same high (i - width low) a k b)
    where
      go : (v : Bool) → cond v (same cube low i) (same cube high (i - width low)) ≡ Some a → (same cube low i ≡ Some a → reads cube low i b ≡ bit_eq a b)
          → (same cube high (i - width low) ≡ Some a → reads cube high (i - width low) b ≡ bit_eq a b) → cond v (reads cube low i b) (reads cube high (i - width low) b) ≡ bit_eq a b
      go true h l k = l h
      go false h l k = k h
  reads_same (Slice x at w) i a h b = reads_same x (at + i) a h b
  reads_same (Extend x w) i a h b = go (nat_lt i (width x)) h (λ k. reads_same x i a k b)
    where
      go : (v : Bool) → cond v (same cube x i) None ≡ Some a → (same cube x i ≡ Some a → reads cube x i b ≡ bit_eq a b) → cond v (reads cube x i b) false ≡ bit_eq a b
      go true h ih = ih h
      go false h ih = no_bit a h
  reads_same (ReduceAnd x) i a h b = but_is (known cube (ReduceAnd x) i) (same cube (ReduceAnd x) i) a b (any_below (λ j. reads cube x j b) (width x)) (same_free (ReduceAnd x) i a h) h
  reads_same (ReduceOr x) i a h b = but_is (known cube (ReduceOr x) i) (same cube (ReduceOr x) i) a b (any_below (λ j. reads cube x j b) (width x)) (same_free (ReduceOr x) i a h) h
  reads_same (ReduceXor x) i a h b = but_is (known cube (ReduceXor x) i) (same cube (ReduceXor x) i) a b (any_below (λ j. reads cube x j b) (width x)) (same_free (ReduceXor x) i a h) h

-- ---- the bits that a tree may read

pub bits_below : (ℕ → List Bit) → ℕ → List Bit
bits_below f zero = []
bits_below f (suc n) = bits_below f n ++ f n

pub read_bits : Tree → ℕ → List Bit
read_bits (Var sig w) i = record { sig = sig; at = i } ∷ []
read_bits (Const w v) i = []
read_bits (Not x) i = read_bits x i
read_bits (And x y) i = read_bits x i ++ read_bits y i
read_bits (Or x y) i = read_bits x i ++ read_bits y i
read_bits (Xor x y) i = read_bits x i ++ read_bits y i
read_bits (Add x y) i = bits_below (λ j. read_bits x j ++ read_bits y j) (suc i)
read_bits (Sub x y) i = bits_below (λ j. read_bits x j ++ read_bits y j) (suc i)
read_bits (Eq x y) i = bits_below (λ j. read_bits x j ++ read_bits y j) (width x)
read_bits (Lt x y) i = bits_below (λ j. read_bits x j ++ read_bits y j) (width x)
read_bits (Shl x by) i = bits_below (read_bits x) (width x) ++ bits_below (read_bits by) (width by)
read_bits (Shr x by) i = bits_below (read_bits x) (width x) ++ bits_below (read_bits by) (width by)
read_bits (Mux c x y) i = read_bits c 0 ++ (read_bits x i ++ read_bits y i)
read_bits (Concat high low) i = read_bits low i ++ read_bits high (i - width low)
read_bits (Slice x at w) i = read_bits x (at + i)
read_bits (Extend x w) i = read_bits x i
read_bits (ReduceAnd x) i = bits_below (read_bits x) (width x)
read_bits (ReduceOr x) i = bits_below (read_bits x) (width x)
read_bits (ReduceXor x) i = bits_below (read_bits x) (width x)

below_in : (g : ℕ → List Bit) (b : Bit) (n j : ℕ) → j < n → Contains (g j) b → Contains (bits_below g n) b
unfolding bits_below
below_in g b zero j l h = absurd (omega arith)
below_in g b (suc n) j l h = elim (cases_eq j n) [
  | inl e ↦ Contains-append_right (bits_below g n) (g n) b (subst (λ (k : ℕ). Contains (g k) b) e h)
  | inr ne ↦ Contains-append_left (bits_below g n) (g n) b (below_in g b n j (omega arith) h)
]

any_in : (f : ℕ → Bool) (g : ℕ → List Bit) (b : Bit) → ((j : ℕ) → f j ≡ true → Contains (g j) b) → (n : ℕ) → any_below f n ≡ true → Contains (bits_below g n) b
unfolding bits_below
any_in f g b each zero h = cc
any_in f g b each (suc n) h = elim (or_cases (any_below f n) (f n) h) [
  | inl k ↦ Contains-append_left (bits_below g n) (g n) b (any_in f g b each n k)
  | inr k ↦ Contains-append_right (bits_below g n) (g n) b (each n k)
]

either_in : (u v : Bool) (xs ys : List Bit) (b : Bit) → (u ≡ true → Contains xs b) → (v ≡ true → Contains ys b) → (u || v) ≡ true → Contains (xs ++ ys) b
either_in u v xs ys b l r h = elim (or_cases u v h) [ inl k ↦ Contains-append_left xs ys b (l k) | inr k ↦ Contains-append_right xs ys b (r k) ]

-- what is read is the bit that it is, or is read by a feed
pub but_cases : (k : Option Bool) (o : Option Bit) (b : Bit) (f : Bool) → reads_but k o b f ≡ true → (o ≡ Some b) ⊎ (f ≡ true)
but_cases (Some v) o b f h = cc
but_cases None (Some a) b f h = inl (ap Some (bit_eq-true a b h))
but_cases None None b f h = inr h

pub if_cases : (k : Option Bool) (v : Bool) (x y : Option Bit) (b : Bit) → if_known_to_be k v x y ≡ Some b → (x ≡ Some b) ⊎ (y ≡ Some b)
if_cases None v x y b h = inr h
if_cases (Some w) v x y b h = go (beq w v) h
  where
    go : (u : Bool) → cond u x y ≡ Some b → (x ≡ Some b) ⊎ (y ≡ Some b)
    go true e = inl e
    go false e = inr e

pub agreed_first : (x y : Option Bit) (b : Bit) → agreed_bit x y ≡ Some b → x ≡ Some b
agreed_first (Some a) (Some c) b h = go (bit_eq a c) h
  where
    go : (u : Bool) → cond u (Some a) None ≡ Some b → Some a ≡ Some b
    go true e = e
    go false e = no_bit b e
agreed_first (Some a) None b h = no_bit b h
agreed_first None y b h = no_bit b h

module _ (cube : Cube) where
  pub self_reads : (t : Tree) (i : ℕ) (b : Bit) → same cube t i ≡ Some b → reads cube t i b ≡ true
  self_reads t i b h = reads_same cube t i b h b ∙ bit_eq-refl b

  gate_in : (v : Bool) (x y : Tree) (i : ℕ) (b : Bit) (k l m : Option Bool)
      → (reads cube x i b ≡ true → Contains (read_bits x i) b) → (reads cube y i b ≡ true → Contains (read_bits y i) b)
      → reads_but k (cond (is_some k) None (if_known_to_be l v (same cube y i) (if_known_to_be m v (same cube x i) None))) b (reads cube x i b || reads cube y i b) ≡ true
      → Contains (read_bits x i ++ read_bits y i) b
  gate_in v x y i b k l m p q h =
      elim (but_cases k (cond (is_some k) None (if_known_to_be l v (same cube y i) (if_known_to_be m v (same cube x i) None))) b (reads cube x i b || reads cube y i b) h) [
        | inl e ↦ elim (if_cases l v (same cube y i) (if_known_to_be m v (same cube x i) None) b (unless_none k (if_known_to_be l v (same cube y i) (if_known_to_be m v (same cube x i) None)) b e).1) [
          | inl f ↦ Contains-append_right (read_bits x i) (read_bits y i) b (q (self_reads y i b f))
          | inr f ↦ elim (if_cases m v (same cube x i) None b f) [
            | inl g ↦ Contains-append_left (read_bits x i) (read_bits y i) b (p (self_reads x i b g))
            | inr g ↦ no_bit b g
          ]
        ]
        | inr e ↦ either_in (reads cube x i b) (reads cube y i b) (read_bits x i) (read_bits y i) b p q e
      ]

  sum_in : (x y : Tree) (n : ℕ) (b : Bit) (k : Option Bool) → ((j : ℕ) → reads cube x j b ≡ true → Contains (read_bits x j) b) → ((j : ℕ) → reads cube y j b ≡ true → Contains (read_bits y j) b)
      → reads_but k None b (any_below (λ j. reads cube x j b || reads cube y j b) n) ≡ true → Contains (bits_below (λ j. read_bits x j ++ read_bits y j) n) b
  sum_in x y n b k p q h = elim (but_cases k None b (any_below (λ j. reads cube x j b || reads cube y j b) n) h) [
    | inl e ↦ no_bit b e
    | inr e ↦ any_in (λ j. reads cube x j b || reads cube y j b) (λ j. read_bits x j ++ read_bits y j) b
        (λ j f. either_in (reads cube x j b) (reads cube y j b) (read_bits x j) (read_bits y j) b (p j) (q j) f) n e
  ]

  reduce_in : (x : Tree) (b : Bit) (k : Option Bool) → ((j : ℕ) → reads cube x j b ≡ true → Contains (read_bits x j) b)
      → reads_but k (cond (width x == 1) (same cube x 0) None) b (any_below (λ j. reads cube x j b) (width x)) ≡ true → Contains (bits_below (read_bits x) (width x)) b
  reduce_in x b k p h = elim (but_cases k (cond (width x == 1) (same cube x 0) None) b (any_below (λ j. reads cube x j b) (width x)) h) [
    | inl e ↦ go (width x == 1) refl e
    | inr e ↦ any_in (λ j. reads cube x j b) (read_bits x) b p (width x) e
  ]
    where
      go : (v : Bool) → (width x == 1) ≡ v → cond v (same cube x 0) None ≡ Some b → Contains (bits_below (read_bits x) (width x)) b
      go true e f = below_in (read_bits x) b (width x) 0 (omega (arith, eqb-true (width x) 1 e)) (p 0 (self_reads x 0 b f))
      go false e f = no_bit b f

  shift_in : (x by : Tree) (b : Bit) (i : ℕ) (o : Option ℕ) (move : ℕ → ℕ) (out : ℕ → Bool) → ((j : ℕ) → reads cube x j b ≡ true → Contains (read_bits x j) b)
      → ((j : ℕ) → reads cube by j b ≡ true → Contains (read_bits by j) b)
      → on_number o (any_below (λ j. reads cube x j b) (width x) || any_below (λ j. reads cube by j b) (width by)) (λ n. cond (out n) false (cond (nat_lt (move n) (width x)) (reads cube x (move n) b) false)) ≡ true
      → Contains (bits_below (read_bits x) (width x) ++ bits_below (read_bits by) (width by)) b
  shift_in x by b i None move out p q h = either_in (any_below (λ j. reads cube x j b) (width x)) (any_below (λ j. reads cube by j b) (width by)) (bits_below (read_bits x) (width x)) (bits_below (read_bits by) (width by)) b
      (any_in (λ j. reads cube x j b) (read_bits x) b p (width x)) (any_in (λ j. reads cube by j b) (read_bits by) b q (width by)) h
  shift_in x by b i (Some n) move out p q h = go (out n) (nat_lt (move n) (width x)) refl h
    where
      go : (u v : Bool) → nat_lt (move n) (width x) ≡ v → cond u false (cond v (reads cube x (move n) b) false) ≡ true → Contains (bits_below (read_bits x) (width x) ++ bits_below (read_bits by) (width by)) b
      go true v e h = cc
      go false true e h = Contains-append_left (bits_below (read_bits x) (width x)) (bits_below (read_bits by) (width by)) b
          (below_in (read_bits x) b (width x) (move n) (ltb-true (move n) (width x) e) (p (move n) h))
      go false false e h = cc

  pub reads_in : (t : Tree) (i : ℕ) (b : Bit) → reads cube t i b ≡ true → Contains (read_bits t i) b
  unfolding read_bits
  reads_in (Var sig w) i b h = go (but_cases (known cube (Var sig w) i) (same cube (Var sig w) i) b false h)
    where
      go : (same cube (Var sig w) i ≡ Some b) ⊎ (false ≡ true) → Contains ((record { sig = sig; at = i }) ∷ []) b
      go (inl e) = (0, omega arith, some_eq (record { sig = sig; at = i }) b (unless_none (known cube (Var sig w) i) (Some (record { sig = sig; at = i })) b e).1)
        where
          some_eq : (a b : Bit) → Some a ≡ Some b → a ≡ b
          some_eq a b e = cc
      go (inr e) = cc
  reads_in (Const w v) i b h = cc
  reads_in (Not x) i b h = elim (but_cases (known cube (Not x) i) None b (reads cube x i b) h) [ inl e ↦ no_bit b e | inr e ↦ reads_in x i b e ]
  reads_in (And x y) i b h = gate_in true x y i b (known cube (And x y) i) (known cube x i) (known cube y i) (reads_in x i b) (reads_in y i b) h
  reads_in (Or x y) i b h = gate_in false x y i b (known cube (Or x y) i) (known cube x i) (known cube y i) (reads_in x i b) (reads_in y i b) h
  reads_in (Xor x y) i b h = gate_in false x y i b (known cube (Xor x y) i) (known cube x i) (known cube y i) (reads_in x i b) (reads_in y i b) h
  reads_in (Add x y) i b h = sum_in x y (suc i) b (known cube (Add x y) i) (λ j. reads_in x j b) (λ j. reads_in y j b) h
  reads_in (Sub x y) i b h = sum_in x y (suc i) b (known cube (Sub x y) i) (λ j. reads_in x j b) (λ j. reads_in y j b) h
  reads_in (Eq x y) i b h = sum_in x y (width x) b (known cube (Eq x y) i) (λ j. reads_in x j b) (λ j. reads_in y j b) h
  reads_in (Lt x y) i b h = sum_in x y (width x) b (known cube (Lt x y) i) (λ j. reads_in x j b) (λ j. reads_in y j b) h
  reads_in (Shl x by) i b h = shift_in x by b i (known_number (known cube by) (width by)) (λ n. i - n) (λ n. nat_lt i n) (λ j. reads_in x j b) (λ j. reads_in by j b) h
  reads_in (Shr x by) i b h = shift_in x by b i (known_number (known cube by) (width by)) (λ n. i + n) (λ n. false) (λ j. reads_in x j b) (λ j. reads_in by j b) h
  reads_in (Mux c x y) i b h =
      go (known cube c 0) (but_cases (known cube (Mux c x y) i) (same cube (Mux c x y) i) b (chosen (known cube c 0) (reads cube x i b) (reads cube y i b) (reads cube c 0 b || (reads cube x i b || reads cube y i b))) h)
      (reads_in c 0 b) (reads_in x i b) (reads_in y i b)
    where
      Goal : List Bit
      Goal = read_bits c 0 ++ (read_bits x i ++ read_bits y i)

      in_x : Contains (read_bits x i) b → Contains (read_bits c 0 ++ (read_bits x i ++ read_bits y i)) b
      in_x k = Contains-append_right (read_bits c 0) (read_bits x i ++ read_bits y i) b (Contains-append_left (read_bits x i) (read_bits y i) b k)

      in_y : Contains (read_bits y i) b → Contains (read_bits c 0 ++ (read_bits x i ++ read_bits y i)) b
      in_y k = Contains-append_right (read_bits c 0) (read_bits x i ++ read_bits y i) b (Contains-append_right (read_bits x i) (read_bits y i) b k)

      by_same : (o : Option Bool) → chosen o (same cube x i) (same cube y i) (agreed_bit (same cube x i) (same cube y i)) ≡ Some b
          → (reads cube x i b ≡ true → Contains (read_bits x i) b) → (reads cube y i b ≡ true → Contains (read_bits y i) b) → Contains (read_bits c 0 ++ (read_bits x i ++ read_bits y i)) b
      by_same (Some true) e p q = in_x (p (self_reads x i b e))
      by_same (Some false) e p q = in_y (q (self_reads y i b e))
      by_same None e p q = in_x (p (self_reads x i b (agreed_first (same cube x i) (same cube y i) b e)))

      by_feed : (o : Option Bool) → chosen o (reads cube x i b) (reads cube y i b) (reads cube c 0 b || (reads cube x i b || reads cube y i b)) ≡ true → (reads cube c 0 b ≡ true → Contains (read_bits c 0) b)
          → (reads cube x i b ≡ true → Contains (read_bits x i) b) → (reads cube y i b ≡ true → Contains (read_bits y i) b) → Contains (read_bits c 0 ++ (read_bits x i ++ read_bits y i)) b
      by_feed (Some true) e r p q = in_x (p e)
      by_feed (Some false) e r p q = in_y (q e)
      by_feed None e r p q = either_in (reads cube c 0 b) (reads cube x i b || reads cube y i b) (read_bits c 0) (read_bits x i ++ read_bits y i) b r
          (λ f. either_in (reads cube x i b) (reads cube y i b) (read_bits x i) (read_bits y i) b p q f) e

      go : (o : Option Bool) → (same cube (Mux c x y) i ≡ Some b) ⊎ (chosen (known cube c 0) (reads cube x i b) (reads cube y i b) (reads cube c 0 b || (reads cube x i b || reads cube y i b)) ≡ true)
          → (reads cube c 0 b ≡ true → Contains (read_bits c 0) b) → (reads cube x i b ≡ true → Contains (read_bits x i) b) → (reads cube y i b ≡ true → Contains (read_bits y i) b)
          → Contains (read_bits c 0 ++ (read_bits x i ++ read_bits y i)) b
      go o (inl e) r p q = by_same (known cube c 0) (unless_none (known cube (Mux c x y) i) (chosen (known cube c 0) (same cube x i) (same cube y i) (agreed_bit (same cube x i) (same cube y i))) b e).1 p q
      go o (inr e) r p q = by_feed (known cube c 0) e r p q
  reads_in (Concat high low) i b h = go (nat_lt i (width low)) h (reads_in low i b) (reads_in high (i - width low) b)
    where
      go : (v : Bool) → cond v (reads cube low i b) (reads cube high (i - width low) b) ≡ true → (reads cube low i b ≡ true → Contains (read_bits low i) b)
          → (reads cube high (i - width low) b ≡ true → Contains (read_bits high (i - width low)) b) → Contains (read_bits low i ++ read_bits high (i - width low)) b
      go true h p q = Contains-append_left (read_bits low i) (read_bits high (i - width low)) b (p h)
      go false h p q = Contains-append_right (read_bits low i) (read_bits high (i - width low)) b (q h)
  reads_in (Slice x at w) i b h = reads_in x (at + i) b h
  reads_in (Extend x w) i b h = go (nat_lt i (width x)) h (reads_in x i b)
    where
      go : (v : Bool) → cond v (reads cube x i b) false ≡ true → (reads cube x i b ≡ true → Contains (read_bits x i) b) → Contains (read_bits x i) b
      go true h p = p h
      go false h p = cc
  reads_in (ReduceAnd x) i b h = reduce_in x b (known cube (ReduceAnd x) i) (λ j. reads_in x j b) h
  reads_in (ReduceOr x) i b h = reduce_in x b (known cube (ReduceOr x) i) (λ j. reads_in x j b) h
  reads_in (ReduceXor x) i b h = reduce_in x b (known cube (ReduceXor x) i) (λ j. reads_in x j b) h

-- the trees of next values show what is so
pub trees_are : (d : Design) (tree : ℕ → Tree) (outputs : Bit → Bool) (grays : GrayReg → Bool) → AreNextTrees d tree
    → ((c : ℕ) → (1 ≤ d.settle c) × (d.settle c ≤ 3)) → ((b : Bit) (c : ℕ) → d.clock b ≡ Some c → b.at < d.width b.sig) → ((g : GrayReg) → grays g ≡ true → IsGrayReg d tree g)
    → AreTrees d (trees_of tree outputs grays)
trees_are d tree outputs grays net settles within gray = record {
  settles = settles;
  within = within;
  copied = λ x reg. net.copied x reg;
  known = λ cube x v reg e r m. net.next r x reg ∙ subst (λ (o : Option Bool). Knows o (bit r (tree x.sig) x.at)) e (known_sound cube r m (tree x.sig) x.at);
  same = λ cube x b reg e r m. net.next r x reg ∙ subst (λ (o : Option Bit). IsBit r o (bit r (tree x.sig) x.at)) e (same_sound cube r m (tree x.sig) x.at);
  reads = λ cube x r q reg m n agree. net.next r x reg ∙ reads_sound cube r q m n (tree x.sig) x.at agree ∙ sym (net.next q x reg);
  same_reads = λ cube x b reg e. self_reads cube (tree x.sig) x.at b e;
  same_only = λ cube x b a reg e h. sym (bit_eq-true b a (sym (reads_same cube (tree x.sig) x.at b e a) ∙ h));
  grays = λ g h. gray_reg_sound d tree net g (gray g h);
  finite = λ x. (read_bits (tree x.sig) x.at, λ b h. reads_in [] (tree x.sig) x.at b h);
}
