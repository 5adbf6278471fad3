-- The values that words of arithmetic give to cells are those of their trees.
use Rattle.std.proofs.Common.{◌≡◌, ◌∙◌, sym, ap, ap₂, subst, refl, arith, ℕ, zero, suc, ◌+◌, ◌-◌, ◌*◌, ◌%◌, ◌^◌, ◌<◌, ◌≤◌, ◌==◌, min, Bool, true, false, cond, not, nat_lt, List, [], ◌∷◌, length, map, Option, Some, None, slice_get, unwrap_or, ◌++◌, length-append, set, ◌≢◌, ltb-true, ltb-false}
use Rattle.std.specs.Prelude.{bit_or, count_ones}
use Rattle.std.specs.Option.{option_map_or}
use Rattle.std.proofs.lemmas.List.{length-map}
use Rattle.cdc_base.specs.declared.signal.Signal.{Signal}
use Rattle.cell_graph.specs.declared.cell.Cell.{Cell}
use Rattle.cell_graph.specs.declared.cell.Cell.TheVariants.{Var, Const, Not, And, Or, Xor, Add, Sub, Eq, Lt, Shl, Shr, Mux, Concat, Slice, Extend, Reduce}
use Rattle.cell_graph.specs.declared.cell.CellId.{CellId}
use Rattle.cell_graph.specs.declared.cell.ReduceKind.{ReduceKind}
use Rattle.cell_graph.specs.declared.cell.ReduceKind.TheVariants as kind
use Rattle.cell_graph.specs.Reading.{Reading}
use Rattle.cell_graph.specs.Tree.{Tree, width, bit, number}
use Rattle.cell_graph.specs.Cells.{Cells, in_order, cell_width, cell_at, signal_width}
use Rattle.cell_graph.specs.Unfolded.{unfolded, reduced, trees, tree_of, IsCellOf, IsWellFormed}
use Rattle.cell_graph.specs.Values.{word_at, reading_of, AreWordsOf, tree_value, values_of, reduced_word, cell_word}
use Rattle.cell_graph.proofs.Trees.{width-tree_of, tree_of-cell}
use Rattle.cell_graph.proofs.Words.{HasBits, number-has, has-number, has-same, bit-has, not-has, and-has, or-has, xor-has, add-has, sub-has, up-has, down-has, slice-has, wider-has, joined-has, equal-bits, any-bit, all-bits, odd-bits}

width-reduced : (k : ReduceKind) (t : Tree) → width (reduced k t) ≡ 1
width-reduced kind.And t = refl
width-reduced kind.Or t = refl
width-reduced kind.Xor t = refl

there : {A : Type 0} (xs : List A) (i : ℕ) → i < length xs → (x : A) × (slice_get xs i ≡ Some x)
there [] i h = absurd (omega arith)
there (x ∷ xs) zero h = (x, refl)
there (x ∷ xs) (suc i) h = there xs i (omega arith)

past : {A : Type 0} (xs : List A) (i : ℕ) → length xs ≤ i → slice_get xs i ≡ None
past [] i h = refl
past (x ∷ xs) zero h = absurd (omega arith)
past (x ∷ xs) (suc i) h = past xs i (omega arith)

pub none-past : {A : Type 0} (xs : List A) (i : ℕ) → slice_get xs i ≡ None → length xs ≤ i
none-past [] i h = omega arith
none-past (x ∷ xs) zero h = absurd (cc)
none-past (x ∷ xs) (suc i) h = let l = none-past xs i h in omega arith

pub length-in_order : {A : Type 0} (f : List A → Cell → A) (before : List A) (cs : List Cell) → length (in_order f before cs) ≡ length before + length cs
length-in_order f before [] = omega arith
length-in_order f before (c ∷ cs) = length-in_order f (before ++ f before c ∷ []) cs ∙ (let l = length-append before (f before c ∷ []) in omega arith)

pub length-trees : (g : Cells) → length (trees g) ≡ length g.cells
length-trees g = length-in_order (unfolded g.signals) [] g.cells ∙ omega arith

-- where there is no cell, there is a zero bit
pub no-tree : (g : Cells) (id : CellId) → slice_get g.cells id.0 ≡ None → tree_of g id ≡ Tree.Const 1 0
no-tree g id e = ap (λ o. unwrap_or o (Tree.Const 1 0)) (past (trees g) id.0 (let l = none-past g.cells id.0 e in let m = length-trees g in omega arith))

number-one : (f : ℕ → Bool) → number f 1 ≡ cond (f 0) 1 0
number-one f = go (f 0)
  where
    go : (b : Bool) → 0 + cond b (2 ^ 0) 0 ≡ cond b 1 0
    go true = omega arith
    go false = omega arith

flip : (b : Bool) → ◌≡◌ {A = ℕ} (cond (not b) 1 0) (cond b 0 1)
flip true = refl
flip false = refl

module _ (g : Cells) (well : IsWellFormed g) where
  signal-width : (sig : ℕ) → sig < length g.signals → (s : Signal) × (slice_get g.signals sig ≡ Some s) × (signal_width g.signals sig ≡ s.width)
  signal-width sig h = let s = there g.signals sig h in (s.0, s.1, ap (λ o. option_map_or (λ (s : Signal). s.width) o 1) s.1)

  -- the tree of a cell of the graph has at most 64 bits
  width-fits : (c : Cell) (n : ℕ) → IsCellOf g n c → ((a : CellId) → a.0 < n → width (tree_of g a) ≤ 64) → width (unfolded g.signals (trees g) c) ≤ 64
  width-fits (Var sig) n h below = let s = signal-width sig h in let w = well.signals sig s.0 s.1 in omega arith
  width-fits (Const w value) n h below = h.1
  width-fits (Not a) n h below = below a h
  width-fits (And a b) n h below = below a h.0
  width-fits (Or a b) n h below = below a h.0
  width-fits (Xor a b) n h below = below a h.0
  width-fits (Add a b) n h below = below a h.0
  width-fits (Sub a b) n h below = below a h.0
  width-fits (Eq a b) n h below = omega arith
  width-fits (Lt a b) n h below = omega arith
  width-fits (Shl a by) n h below = below a h.0
  width-fits (Shr a by) n h below = below a h.0
  width-fits (Mux c x y) n h below = below x h.2.0
  width-fits (Concat high low) n h below = let p = width-tree_of g high in let q = width-tree_of g low in omega arith
  width-fits (Slice a at w) n h below = let p = width-tree_of g a in let q = below a h.0 in omega arith
  width-fits (Extend a w) n h below = h.2
  width-fits (Reduce k a) n h below = let e = width-reduced k (tree_of g a) in omega arith

  at-most : (n : ℕ) (id : CellId) → id.0 < n → width (tree_of g id) ≤ 64
  at-most zero id h = absurd (omega arith)
  at-most (suc n) id h = go (slice_get g.cells id.0) refl (λ a l. at-most n a (omega arith))
    where
      go : (o : Option Cell) → slice_get g.cells id.0 ≡ o → ((a : CellId) → a.0 < id.0 → width (tree_of g a) ≤ 64) → width (tree_of g id) ≤ 64
      go (Some c) e below = rw (tree_of-cell g well id c e) (width-fits c id.0 (well.cells id.0 c e) below)
      go None e below = rw (no-tree g id e) (omega arith)

  pub width-64 : (id : CellId) → width (tree_of g id) ≤ 64
  width-64 id = at-most (suc id.0) id (omega arith)

  module _ (words vs : List ℕ) (fit : AreWordsOf g.signals words) where
    abbrev pub r : Reading
    r = reading_of words

    reduced-has : (k : ReduceKind) (t : Tree) (v : ℕ) → width t ≤ 64 → HasBits v (bit r t) (width t) → HasBits (reduced_word k (width t) v) (bit r (reduced k t)) 1
    reduced-has kind.And t v small h = bit-has (v == 2 ^ min (width t) 64 - 1) (bit r (reduced kind.And t))
        (all-bits (bit r t) (width t) ∙ ap₂ (λ x m. x == 2 ^ m - 1) (sym (has-number h)) (let e : width t ≡ min (width t) 64 = omega arith in e))
    reduced-has kind.Or t v small h = subst (λ n. HasBits n (bit r (reduced kind.Or t)) 1) (flip (v == 0)) (bit-has (not (v == 0)) (bit r (reduced kind.Or t))
        (any-bit (bit r t) (width t) ∙ ap (λ n. not (n == 0)) (sym (has-number h))))
    reduced-has kind.Xor t v small h = subst (λ n. HasBits (count_ones n % 2) (bit r (reduced kind.Xor t)) 1) (sym (has-number h)) (odd-bits (bit r t) (width t))

    module _ (n : ℕ) (before : (a : CellId) → a.0 < n → word_at vs a.0 ≡ tree_value r (tree_of g a)) where
      has : (a : CellId) → a.0 < n → HasBits (word_at vs a.0) (bit r (tree_of g a)) (width (tree_of g a))
      has a h = subst (λ v. HasBits v (bit r (tree_of g a)) (width (tree_of g a))) (sym (before a h)) (number-has (bit r (tree_of g a)) (width (tree_of g a)))

      -- the second of two operands of one width
      has-like : (a b : CellId) → b.0 < n → cell_width g a ≡ cell_width g b → HasBits (word_at vs b.0) (bit r (tree_of g b)) (width (tree_of g a))
      has-like a b h e = subst (λ w. HasBits (word_at vs b.0) (bit r (tree_of g b)) w) (sym (width-tree_of g b) ∙ sym e ∙ width-tree_of g a) (has b h)

      number-of : (a : CellId) → a.0 < n → word_at vs a.0 ≡ number (bit r (tree_of g a)) (width (tree_of g a))
      number-of a h = before a h

      number-like : (a b : CellId) → b.0 < n → cell_width g a ≡ cell_width g b → word_at vs b.0 ≡ number (bit r (tree_of g b)) (width (tree_of g a))
      number-like a b h e = has-number (has-like a b h e)

      cell-has : (c : Cell) → IsCellOf g n c → HasBits (cell_word g words vs (width (unfolded g.signals (trees g) c)) c) (bit r (unfolded g.signals (trees g) c)) (width (unfolded g.signals (trees g) c))
      cell-has (Var sig) h = let s = signal-width sig h in
          record { lt = subst (λ w. word_at words sig < 2 ^ w) (sym s.2) (fit.fit sig s.0 s.1); each = λ i l. refl }
      cell-has (Const w value) h = record { lt = h.2; each = λ i l. refl }
      cell-has (Not a) h = not-has (bit r (tree_of g a)) (bit r (tree_of g a)) (width (tree_of g a)) (word_at vs a.0) (width-64 a) (has a h)
      cell-has (And a b) h = and-has (bit r (tree_of g a)) (bit r (tree_of g b)) (width (tree_of g a)) (word_at vs a.0) (word_at vs b.0) (has a h.0) (has-like a b h.1 h.2)
      cell-has (Or a b) h = or-has (bit r (tree_of g a)) (bit r (tree_of g b)) (width (tree_of g a)) (word_at vs a.0) (word_at vs b.0) (has a h.0) (has-like a b h.1 h.2)
      cell-has (Xor a b) h = xor-has (bit r (tree_of g a)) (bit r (tree_of g b)) (width (tree_of g a)) (word_at vs a.0) (word_at vs b.0) (has a h.0) (has-like a b h.1 h.2)
      cell-has (Add a b) h = add-has (bit r (tree_of g a)) (bit r (tree_of g b)) (width (tree_of g a)) (word_at vs a.0) (word_at vs b.0) (width-64 a) (has a h.0) (has-like a b h.1 h.2)
      cell-has (Sub a b) h = sub-has (bit r (tree_of g a)) (bit r (tree_of g b)) (width (tree_of g a)) (word_at vs a.0) (word_at vs b.0) (width-64 a) (has a h.0) (has-like a b h.1 h.2)
      cell-has (Eq a b) h = bit-has (word_at vs a.0 == word_at vs b.0) (bit r (unfolded g.signals (trees g) (Eq a b)))
          (sym (ap₂ (λ x y. x == y) (number-of a h.0) (number-like a b h.1 h.2) ∙ equal-bits (bit r (tree_of g a)) (bit r (tree_of g b)) (width (tree_of g a))))
      cell-has (Lt a b) h = bit-has (nat_lt (word_at vs a.0) (word_at vs b.0)) (bit r (unfolded g.signals (trees g) (Lt a b)))
          (sym (ap₂ nat_lt (number-of a h.0) (number-like a b h.1 h.2)))
      cell-has (Shl a by) h = rw (number-of by h.1) (up-has (bit r (tree_of g a)) (width (tree_of g a)) (word_at vs a.0) (number (bit r (tree_of g by)) (width (tree_of g by))) (width-64 a) (has a h.0))
      cell-has (Shr a by) h = rw (number-of by h.1) (down-has (bit r (tree_of g a)) (width (tree_of g a)) (word_at vs a.0) (number (bit r (tree_of g by)) (width (tree_of g by))) (has a h.0))
      cell-has (Mux c x y) h = go (bit r (tree_of g c) 0) refl
        where
          one : width (tree_of g c) ≡ 1
          one = sym (width-tree_of g c) ∙ h.1

          e : word_at vs c.0 ≡ cond (bit r (tree_of g c) 0) 1 0
          e = number-of c h.0 ∙ ap (number (bit r (tree_of g c))) one ∙ number-one (bit r (tree_of g c))

          go : (b : Bool) → bit r (tree_of g c) 0 ≡ b → HasBits (cond (word_at vs c.0 == 0) (word_at vs y.0) (word_at vs x.0)) (bit r (unfolded g.signals (trees g) (Mux c x y))) (width (tree_of g x))
          go true t = subst (λ v. HasBits v (bit r (unfolded g.signals (trees g) (Mux c x y))) (width (tree_of g x)))
              (sym (ap (λ n. cond (n == 0) (word_at vs y.0) (word_at vs x.0)) (e ∙ ap (λ b. cond b 1 0) t)))
              (has-same (has x h.2.0) (λ i l. ap (λ b. cond b (bit r (tree_of g x) i) (bit r (tree_of g y) i)) (sym t)))
          go false t = subst (λ v. HasBits v (bit r (unfolded g.signals (trees g) (Mux c x y))) (width (tree_of g x)))
              (sym (ap (λ n. cond (n == 0) (word_at vs y.0) (word_at vs x.0)) (e ∙ ap (λ b. cond b 1 0) t)))
              (has-same (has-like x y h.2.1 h.2.2) (λ i l. ap (λ b. cond b (bit r (tree_of g x) i) (bit r (tree_of g y) i)) (sym t)))
      cell-has (Concat high low) h =
          let p = width-tree_of g high in let q = width-tree_of g low in
          subst (λ m. HasBits (bit_or (word_at vs high.0 * 2 ^ cell_width g low % 2 ^ 64) (word_at vs low.0)) (bit r (unfolded g.signals (trees g) (Concat high low))) m)
          (let e : width (tree_of g high) + width (tree_of g low) ≡ min (width (tree_of g high) + width (tree_of g low)) 255 = omega arith in e)
          (subst (λ v. HasBits (bit_or (word_at vs high.0 * 2 ^ v % 2 ^ 64) (word_at vs low.0)) (bit r (unfolded g.signals (trees g) (Concat high low))) (width (tree_of g high) + width (tree_of g low)))
          (sym q) (joined-has (bit r (tree_of g high)) (bit r (tree_of g low)) (width (tree_of g high)) (width (tree_of g low)) (word_at vs high.0) (word_at vs low.0) (omega arith) (has high h.0) (has low h.1)))
      cell-has (Slice a at w) h = slice-has (bit r (tree_of g a)) (width (tree_of g a)) (word_at vs a.0) at w (let p = width-tree_of g a in let q = h.2 in omega arith) (has a h.0)
      cell-has (Extend a w) h = wider-has (bit r (tree_of g a)) (width (tree_of g a)) (word_at vs a.0) w (let p = width-tree_of g a in let q = h.1 in omega arith) (has a h.0)
      cell-has (Reduce k a) h =
          subst (λ m. HasBits (reduced_word k (cell_width g a) (word_at vs a.0)) (bit r (reduced k (tree_of g a))) m) (sym (width-reduced k (tree_of g a)))
          (subst (λ w. HasBits (reduced_word k w (word_at vs a.0)) (bit r (reduced k (tree_of g a))) 1) (sym (width-tree_of g a))
          (reduced-has k (tree_of g a) (word_at vs a.0) (width-64 a) (has a h)))

      pub cell_word-is : (id : CellId) (c : Cell) → n ≡ id.0 → slice_get g.cells id.0 ≡ Some c → cell_word g words vs (cell_width g id) c ≡ tree_value r (tree_of g id)
      cell_word-is id c same e =
          let t = tree_of-cell g well id c e in
          let is : IsCellOf g n c = subst (λ k. IsCellOf g k c) (sym same) (well.cells id.0 c e) in
          ap (λ w. cell_word g words vs w c) (width-tree_of g id)
          ∙ subst (λ u. cell_word g words vs (width u) c ≡ tree_value r u) (sym t) (has-number (cell-has c is))

-- ---- the list of all values

word_at-set_same : (xs : List ℕ) (i v : ℕ) → i < length xs → word_at (set xs i v) i ≡ v
word_at-set_same [] i v h = absurd (omega arith)
word_at-set_same (x ∷ xs) zero v h = refl
word_at-set_same (x ∷ xs) (suc i) v h = word_at-set_same xs i v (omega arith)

word_at-set_other : (xs : List ℕ) (i j v : ℕ) → j ≢ i → word_at (set xs i v) j ≡ word_at xs j
word_at-set_other [] i j v h = refl
word_at-set_other (x ∷ xs) zero zero v h = absurd (h refl)
word_at-set_other (x ∷ xs) zero (suc j) v h = refl
word_at-set_other (x ∷ xs) (suc i) zero v h = refl
word_at-set_other (x ∷ xs) (suc i) (suc j) v h = word_at-set_other xs i j v (λ e. h (ap suc e))

module _ (g : Cells) (well : IsWellFormed g) (words : List ℕ) (fit : AreWordsOf g.signals words) where
  -- one more cell has its value
  pub one_more : (xs : List ℕ) (n : ℕ) → length xs ≡ length g.cells → n < length g.cells
      → ((a : CellId) → a.0 < n → word_at xs a.0 ≡ tree_value (reading_of words) (tree_of g a))
      → (v : ℕ) (ys : List ℕ) → ys ≡ set xs n v → (id : CellId) → id.0 ≡ n → v ≡ cell_word g words xs (cell_width g id) (cell_at g id)
      → (a : CellId) → a.0 < n + 1 → word_at ys a.0 ≡ tree_value (reading_of words) (tree_of g a)
  one_more xs n len lt before v ys e id at is a h = go (nat_lt a.0 n) refl
    where
      c : (c : Cell) × (slice_get g.cells id.0 ≡ Some c)
      c = there g.cells id.0 (omega arith)

      go : (b : Bool) → nat_lt a.0 n ≡ b → word_at ys a.0 ≡ tree_value (reading_of words) (tree_of g a)
      go true f = let l = ltb-true a.0 n f in ap (λ zs. word_at zs a.0) e ∙ word_at-set_other xs n a.0 v (λ same. let l = ltb-true a.0 n f in omega arith) ∙ before a l
      go false f =
          let l = ltb-false a.0 n f in
          let same : a.0 ≡ id.0 = omega arith in
          ap₂ (λ zs k. word_at zs k) e (let k : a.0 ≡ n = omega arith in k) ∙ word_at-set_same xs n v (omega arith) ∙ is
          ∙ ap (λ d. cell_word g words xs (cell_width g id) d) (ap (λ o. unwrap_or o (Const 1 0)) c.1)
          ∙ cell_word-is g well words xs fit n before id c.0 (sym at) c.1
          ∙ ap (λ (k : ℕ). tree_value (reading_of words) (unwrap_or (slice_get (trees g) k) (Tree.Const 1 0))) (sym same)

list-same : (xs ys : List ℕ) → length xs ≡ length ys → ((i : ℕ) → i < length xs → word_at xs i ≡ word_at ys i) → xs ≡ ys
list-same [] [] e each = refl
list-same [] (y ∷ ys) e each = absurd (omega arith)
list-same (x ∷ xs) [] e each = absurd (omega arith)
list-same (x ∷ xs) (y ∷ ys) e each = ap₂ (λ z zs. z ∷ zs) (each 0 (omega arith)) (list-same xs ys (omega arith) (λ i h. each (suc i) (omega arith)))

word_at-map : (f : Tree → ℕ) (ts : List Tree) (i : ℕ) → i < length ts → word_at (map f ts) i ≡ f (unwrap_or (slice_get ts i) (Tree.Const 1 0))
word_at-map f [] i h = absurd (omega arith)
word_at-map f (t ∷ ts) zero h = refl
word_at-map f (t ∷ ts) (suc i) h = word_at-map f ts i (omega arith)

pub all_values : (g : Cells) (words xs : List ℕ) (n : ℕ) → length xs ≡ length g.cells → length g.cells ≤ n
    → ((a : CellId) → a.0 < n → word_at xs a.0 ≡ tree_value (reading_of words) (tree_of g a)) → xs ≡ values_of g words
all_values g words xs n len le each =
    let l : length (values_of g words) ≡ length g.cells = length-map (trees g) (tree_value (reading_of words)) ∙ length-trees g in
    list-same xs (values_of g words) (omega arith) (λ i h.
    each (record { 0 = i }) (omega arith) ∙ sym (word_at-map (tree_value (reading_of words)) (trees g) i (let m = length-trees g in omega arith)))
