-- What bits read: those that are known nothing, those that equal a state bit that one, and the others what they are made of.
use Rattle.std.proofs.Common.{◌≡◌, ◌∙◌, ◌⊎◌, inl, inr, sym, ap, ap₂, subst, refl, arith, ℕ, zero, suc, ◌+◌, ◌-◌, ◌<◌, ◌≤◌, Bool, true, false, ◌||◌, ◌==◌, cond, nat_lt, length, Option, Some, None, is_some, ltb-true, ltb-false, lt-ltb, eqb-true}
use Rattle.cdc_base.specs.declared.bit.Bit.{Bit}
use Rattle.cell_graph.specs.declared.cell.Cell.{Cell}
use Rattle.cell_graph.specs.declared.cell.Cell.TheVariants as cell
use Rattle.cell_graph.specs.declared.cell.CellId.{CellId}
use Rattle.cell_graph.specs.declared.cell.ReduceKind.TheVariants as kind
use Rattle.cell_graph.specs.Below.{IsOperand}
use Rattle.cell_graph.specs.Cells.{Cells, cell_at, cell_width}
use Rattle.cell_graph.specs.Cofactor.{known, same, reads, reads_but, known_all, known_any, known_odd, known_xor, known_number, if_known_to_be, agreed_bit, chosen, on_number}
use Rattle.cell_graph.specs.Reading.{Cube, bit_eq}
use Rattle.cell_graph.specs.Tree.{Tree, Var, Const, Not, And, Or, Xor, Add, Sub, Eq, Lt, Shl, Shr, Mux, Concat, Slice, Extend, ReduceAnd, ReduceOr, ReduceXor, width, any_below}
use Rattle.cell_graph.specs.Unfolded.{unfolded, trees, tree_of, IsCellOf, IsWellFormed}
use Rattle.cell_graph.proofs.Cones.{cell-there}
use Rattle.cell_graph.proofs.Trees.{width-tree_of, tree_of-cell}
use Rattle.cofactor.specs.Made.{IsAnyBit, IsMovedUp, IsMovedDown, IsOfChoice, IsMadeOf}

no-bit : {P : Type 0} (a : Bit) → ◌≡◌ {A = Option Bit} None (Some a) → P
no-bit a e = absurd (cc)

-- what follows where a choice, or a function of a number, gives something
cond-by : {A B : Type 0} (c : Bool) (o p : Option A) (x z : B) (a : A) (y : B) → (o ≡ Some a → x ≡ y) → (p ≡ Some a → z ≡ y) → cond c o p ≡ Some a → cond c x z ≡ y
cond-by true o p x z a y f h e = f e
cond-by false o p x z a y f h e = h e

number-by : {A B : Type 0} (o : Option ℕ) (f : ℕ → Option A) (z : B) (r : ℕ → B) (a : A) (y : B) → ((n : ℕ) → f n ≡ Some a → r n ≡ y) → on_number o None f ≡ Some a → on_number o z r ≡ y
number-by None f z r a y h e = absurd (cc)
number-by (Some n) f z r a y h e = h n e

-- a known bit reads nothing
pub reads-known : (cube : Cube) (t : Tree) (i : ℕ) (b : Bit) (v : Bool) → known cube t i ≡ Some v → reads cube t i b ≡ false
reads-known cube (Var sig w) i b v e = ap (λ p. reads_but p (same cube (Var sig w) i) b (false)) e
reads-known cube (Const w n) i b v e = refl
reads-known cube (Not a) i b v e = ap (λ p. reads_but p (None) b (reads cube a i b)) e
reads-known cube (And x y) i b v e = ap (λ p. reads_but p (same cube (And x y) i) b (reads cube x i b || reads cube y i b)) e
reads-known cube (Or x y) i b v e = ap (λ p. reads_but p (same cube (Or x y) i) b (reads cube x i b || reads cube y i b)) e
reads-known cube (Xor x y) i b v e = ap (λ p. reads_but p (same cube (Xor x y) i) b (reads cube x i b || reads cube y i b)) e
reads-known cube (Add x y) i b v e = ap (λ p. reads_but p (None) b (any_below (λ j. reads cube x j b || reads cube y j b) (suc i))) e
reads-known cube (Sub x y) i b v e = ap (λ p. reads_but p (None) b (any_below (λ j. reads cube x j b || reads cube y j b) (suc i))) e
reads-known cube (Eq x y) i b v e = ap (λ p. reads_but p (None) b (any_below (λ j. reads cube x j b || reads cube y j b) (width x))) e
reads-known cube (Lt x y) i b v e = ap (λ p. reads_but p (None) b (any_below (λ j. reads cube x j b || reads cube y j b) (width x))) e
reads-known cube (Shl a by) i b v e =
    number-by (known_number (known cube by) (width by)) (λ n. cond (nat_lt i n) (Some false) (cond (nat_lt (i - n) (width a)) (known cube a (i - n)) (Some false)))
    (any_below (λ j. reads cube a j b) (width a) || any_below (λ j. reads cube by j b) (width by)) (λ n. cond (nat_lt i n) false (cond (nat_lt (i - n) (width a)) (reads cube a (i - n) b) false)) v false
    (λ n. cond-by (nat_lt i n) (Some false) (cond (nat_lt (i - n) (width a)) (known cube a (i - n)) (Some false)) false (cond (nat_lt (i - n) (width a)) (reads cube a (i - n) b) false) v false (λ z. refl)
    (cond-by (nat_lt (i - n) (width a)) (known cube a (i - n)) (Some false) (reads cube a (i - n) b) false v false (reads-known cube a (i - n) b v) (λ z. refl))) e
reads-known cube (Shr a by) i b v e =
    number-by (known_number (known cube by) (width by)) (λ n. cond (nat_lt (i + n) (width a)) (known cube a (i + n)) (Some false))
    (any_below (λ j. reads cube a j b) (width a) || any_below (λ j. reads cube by j b) (width by)) (λ n. cond (nat_lt (i + n) (width a)) (reads cube a (i + n) b) false) v false
    (λ n. cond-by (nat_lt (i + n) (width a)) (known cube a (i + n)) (Some false) (reads cube a (i + n) b) false v false (reads-known cube a (i + n) b v) (λ z. refl)) e
reads-known cube (Mux c x y) i b v e = ap (λ p. reads_but p (same cube (Mux c x y) i) b (chosen (known cube c 0) (reads cube x i b) (reads cube y i b) (reads cube c 0 b || (reads cube x i b || reads cube y i b)))) e
reads-known cube (Concat high low) i b v e =
    cond-by (nat_lt i (width low)) (known cube low i) (known cube high (i - width low)) (reads cube low i b) (reads cube high (i - width low) b) v false
    (reads-known cube low i b v) (reads-known cube high (i - width low) b v) e
reads-known cube (Slice a at w) i b v e = reads-known cube a (at + i) b v e
reads-known cube (Extend a w) i b v e = cond-by (nat_lt i (width a)) (known cube a i) (Some false) (reads cube a i b) false v false (reads-known cube a i b v) (λ z. refl) e
reads-known cube (ReduceAnd a) i b v e = ap (λ p. reads_but p (same cube (ReduceAnd a) i) b (any_below (λ j. reads cube a j b) (width a))) e
reads-known cube (ReduceOr a) i b v e = ap (λ p. reads_but p (same cube (ReduceOr a) i) b (any_below (λ j. reads cube a j b) (width a))) e
reads-known cube (ReduceXor a) i b v e = ap (λ p. reads_but p (same cube (ReduceXor a) i) b (any_below (λ j. reads cube a j b) (width a))) e

unless-known : (o : Option Bool) (s : Option Bit) (a : Bit) → cond (is_some o) None s ≡ Some a → o ≡ None
unless-known None s a e = refl
unless-known (Some v) s a e = absurd (cc)

-- a word of one bit whose bit isn't known
one-unknown : (F : (ℕ → Option Bool) → ℕ → Option Bool) (k : ℕ → Option Bool) (w : ℕ) (s : Option Bit) (a : Bit) → (s ≡ Some a → F k 1 ≡ None) → cond (w == 1) s None ≡ Some a → F k w ≡ None
one-unknown F k w s a f e = go (w == 1) refl e
  where
    go : (c : Bool) → (w == 1) ≡ c → cond c s None ≡ Some a → F k w ≡ None
    go true t h = ap (F k) (eqb-true w 1 t) ∙ f h
    go false t h = absurd (cc)

-- a bit that equals a state bit isn't known
pub same-unknown : (cube : Cube) (t : Tree) (i : ℕ) (a : Bit) → same cube t i ≡ Some a → known cube t i ≡ None
same-unknown cube (Var sig w) i a e = unless-known (known cube (Var sig w) i) (Some (record { sig = sig; at = i })) a e
same-unknown cube (Const w v) i a e = no-bit a e
same-unknown cube (Not p) i a e = no-bit a e
same-unknown cube (And x y) i a e = unless-known (known cube (And x y) i) (if_known_to_be (known cube x i) true (same cube y i) (if_known_to_be (known cube y i) true (same cube x i) None)) a e
same-unknown cube (Or x y) i a e = unless-known (known cube (Or x y) i) (if_known_to_be (known cube x i) false (same cube y i) (if_known_to_be (known cube y i) false (same cube x i) None)) a e
same-unknown cube (Xor x y) i a e = unless-known (known cube (Xor x y) i) (if_known_to_be (known cube x i) false (same cube y i) (if_known_to_be (known cube y i) false (same cube x i) None)) a e
same-unknown cube (Add x y) i a e = no-bit a e
same-unknown cube (Sub x y) i a e = no-bit a e
same-unknown cube (Eq x y) i a e = no-bit a e
same-unknown cube (Lt x y) i a e = no-bit a e
same-unknown cube (Shl p by) i a e =
    number-by (known_number (known cube by) (width by)) (λ n. cond (nat_lt i n) None (cond (nat_lt (i - n) (width p)) (same cube p (i - n)) None))
    None (λ n. cond (nat_lt i n) (Some false) (cond (nat_lt (i - n) (width p)) (known cube p (i - n)) (Some false))) a None
    (λ n. cond-by (nat_lt i n) None (cond (nat_lt (i - n) (width p)) (same cube p (i - n)) None) (Some false) (cond (nat_lt (i - n) (width p)) (known cube p (i - n)) (Some false)) a None (no-bit a)
    (cond-by (nat_lt (i - n) (width p)) (same cube p (i - n)) None (known cube p (i - n)) (Some false) a None (same-unknown cube p (i - n) a) (no-bit a))) e
same-unknown cube (Shr p by) i a e =
    number-by (known_number (known cube by) (width by)) (λ n. cond (nat_lt (i + n) (width p)) (same cube p (i + n)) None)
    None (λ n. cond (nat_lt (i + n) (width p)) (known cube p (i + n)) (Some false)) a None
    (λ n. cond-by (nat_lt (i + n) (width p)) (same cube p (i + n)) None (known cube p (i + n)) (Some false) a None (same-unknown cube p (i + n) a) (no-bit a)) e
same-unknown cube (Mux c x y) i a e = unless-known (known cube (Mux c x y) i) (chosen (known cube c 0) (same cube x i) (same cube y i) (agreed_bit (same cube x i) (same cube y i))) a e
same-unknown cube (Concat high low) i a e =
    cond-by (nat_lt i (width low)) (same cube low i) (same cube high (i - width low)) (known cube low i) (known cube high (i - width low)) a None
    (same-unknown cube low i a) (same-unknown cube high (i - width low) a) e
same-unknown cube (Slice p at w) i a e = same-unknown cube p (at + i) a e
same-unknown cube (Extend p w) i a e = cond-by (nat_lt i (width p)) (same cube p i) None (known cube p i) (Some false) a None (same-unknown cube p i a) (no-bit a) e
same-unknown cube (ReduceAnd p) i a e = one-unknown known_all (known cube p) (width p) (same cube p 0) a (λ h. same-unknown cube p 0 a h) e
same-unknown cube (ReduceOr p) i a e = one-unknown known_any (known cube p) (width p) (same cube p 0) a (λ h. same-unknown cube p 0 a h) e
same-unknown cube (ReduceXor p) i a e = one-unknown known_odd (known cube p) (width p) (same cube p 0) a (λ h. ap (λ o. known_xor o (Some false)) (same-unknown cube p 0 a h)) e

-- a bit that equals a state bit reads that one
pub reads-same : (cube : Cube) (t : Tree) (i : ℕ) (b a : Bit) → same cube t i ≡ Some a → reads cube t i b ≡ bit_eq a b
reads-same cube (Var sig w) i b a e = ap₂ (λ p q. reads_but p q b (false)) (same-unknown cube (Var sig w) i a e) e
reads-same cube (Const w v) i b a e = no-bit a e
reads-same cube (Not p) i b a e = no-bit a e
reads-same cube (And x y) i b a e = ap₂ (λ p q. reads_but p q b (reads cube x i b || reads cube y i b)) (same-unknown cube (And x y) i a e) e
reads-same cube (Or x y) i b a e = ap₂ (λ p q. reads_but p q b (reads cube x i b || reads cube y i b)) (same-unknown cube (Or x y) i a e) e
reads-same cube (Xor x y) i b a e = ap₂ (λ p q. reads_but p q b (reads cube x i b || reads cube y i b)) (same-unknown cube (Xor x y) i a e) e
reads-same cube (Add x y) i b a e = no-bit a e
reads-same cube (Sub x y) i b a e = no-bit a e
reads-same cube (Eq x y) i b a e = no-bit a e
reads-same cube (Lt x y) i b a e = no-bit a e
reads-same cube (Shl p by) i b a e =
    number-by (known_number (known cube by) (width by)) (λ n. cond (nat_lt i n) None (cond (nat_lt (i - n) (width p)) (same cube p (i - n)) None))
    (any_below (λ j. reads cube p j b) (width p) || any_below (λ j. reads cube by j b) (width by)) (λ n. cond (nat_lt i n) false (cond (nat_lt (i - n) (width p)) (reads cube p (i - n) b) false)) a (bit_eq a b)
    (λ n. cond-by (nat_lt i n) None (cond (nat_lt (i - n) (width p)) (same cube p (i - n)) None) false (cond (nat_lt (i - n) (width p)) (reads cube p (i - n) b) false) a (bit_eq a b) (no-bit a)
    (cond-by (nat_lt (i - n) (width p)) (same cube p (i - n)) None (reads cube p (i - n) b) false a (bit_eq a b) (reads-same cube p (i - n) b a) (no-bit a))) e
reads-same cube (Shr p by) i b a e =
    number-by (known_number (known cube by) (width by)) (λ n. cond (nat_lt (i + n) (width p)) (same cube p (i + n)) None)
    (any_below (λ j. reads cube p j b) (width p) || any_below (λ j. reads cube by j b) (width by)) (λ n. cond (nat_lt (i + n) (width p)) (reads cube p (i + n) b) false) a (bit_eq a b)
    (λ n. cond-by (nat_lt (i + n) (width p)) (same cube p (i + n)) None (reads cube p (i + n) b) false a (bit_eq a b) (reads-same cube p (i + n) b a) (no-bit a)) e
reads-same cube (Mux c x y) i b a e = ap₂ (λ p q. reads_but p q b (chosen (known cube c 0) (reads cube x i b) (reads cube y i b) (reads cube c 0 b || (reads cube x i b || reads cube y i b)))) (same-unknown cube (Mux c x y) i a e) e
reads-same cube (Concat high low) i b a e =
    cond-by (nat_lt i (width low)) (same cube low i) (same cube high (i - width low)) (reads cube low i b) (reads cube high (i - width low) b) a (bit_eq a b)
    (reads-same cube low i b a) (reads-same cube high (i - width low) b a) e
reads-same cube (Slice p at w) i b a e = reads-same cube p (at + i) b a e
reads-same cube (Extend p w) i b a e = cond-by (nat_lt i (width p)) (same cube p i) None (reads cube p i b) false a (bit_eq a b) (reads-same cube p i b a) (no-bit a) e
reads-same cube (ReduceAnd p) i b a e = ap₂ (λ o q. reads_but o q b (any_below (λ j. reads cube p j b) (width p))) (same-unknown cube (ReduceAnd p) i a e) e
reads-same cube (ReduceOr p) i b a e = ap₂ (λ o q. reads_but o q b (any_below (λ j. reads cube p j b) (width p))) (same-unknown cube (ReduceOr p) i a e) e
reads-same cube (ReduceXor p) i b a e = ap₂ (λ o q. reads_but o q b (any_below (λ j. reads cube p j b) (width p))) (same-unknown cube (ReduceXor p) i a e) e

-- ---- all other bits

or-true : (x y : Bool) → (x || y) ≡ true → (x ≡ true) ⊎ (y ≡ true)
or-true true y h = inl refl
or-true false y h = inr h

or-first : (x y : Bool) → x ≡ true → (x || y) ≡ true
or-first true y h = refl
or-first false y h = absurd (cc)

or-second : (x y : Bool) → y ≡ true → (x || y) ≡ true
or-second true y h = refl
or-second false y h = h

any-some : (f : ℕ → Bool) (w : ℕ) → any_below f w ≡ true → (j : ℕ) × (j < w) × (f j ≡ true)
any-some f zero h = absurd (cc)
any-some f (suc w) h = elim (or-true (any_below f w) (f w) h) [
  | inl k ↦ (let s = any-some f w k in (s.0, (let l = s.1 in omega arith), s.2))
  | inr k ↦ (w, omega arith, k)
]

any-there : (f : ℕ → Bool) (w j : ℕ) → j < w → f j ≡ true → any_below f w ≡ true
any-there f zero j l h = absurd (omega arith)
any-there f (suc w) j l h = go (nat_lt j w) refl (λ m. any-there f w j m h)
  where
    go : (b : Bool) → nat_lt j w ≡ b → (j < w → any_below f w ≡ true) → any_below f (suc w) ≡ true
    go true t before = or-first (any_below f w) (f w) (before (ltb-true j w t))
    go false t before = let m = ltb-false j w t in let e : w ≡ j = omega arith in or-second (any_below f w) (f w) (ap f e ∙ h)

but-made : (o : Option Bool) (s : Option Bit) (b : Bit) (f : Bool) → o ≡ None → s ≡ None → reads_but o s b f ≡ f
but-made o s b f e h = ap₂ (λ p q. reads_but p q b f) e h

module _ (g : Cells) (well : IsWellFormed g) (cube : Cube) (id : CellId) (lt : id.0 < length g.cells) where
  abbrev T : Cell → Tree
  T c = unfolded g.signals (trees g) c

  abbrev R : CellId → ℕ → Bit → Bool
  R x j b = reads cube (tree_of g x) j b

  abbrev K : CellId → ℕ → Option Bool
  K a = known cube (tree_of g a)

  abbrev W : CellId → ℕ
  W a = width (tree_of g a)

  -- b is read by a bit of which bit i is made
  abbrev Makes : Cell → ℕ → Bit → Type 0
  Makes c i b = (x : CellId) × (j : ℕ) × IsMadeOf g cube c i x j × (j < cell_width g x) × (R x j b ≡ true)

  tree : (c : Cell) → cell_at g id ≡ c → tree_of g id ≡ unfolded g.signals (trees g) c
  tree c e = tree_of-cell g well id c (cell-there g id lt ∙ ap Some e)

  is-cell : (c : Cell) → cell_at g id ≡ c → IsCellOf g id.0 c
  is-cell c e = well.cells id.0 c (cell-there g id lt ∙ ap Some e)

  within : (a : CellId) (j : ℕ) → j < W a → j < cell_width g a
  within a j l = let w = width-tree_of g a in omega arith

  -- a bit of one of two cells
  either : (a b : CellId) (j : ℕ) (c : Bit) → (R a j c || R b j c) ≡ true → (x : CellId) × ((x ≡ a) ⊎ (x ≡ b)) × (R x j c ≡ true)
  either a b j c h = elim (or-true (R a j c) (R b j c) h) [ inl k ↦ (a, inl refl, k) | inr k ↦ (b, inr refl, k) ]

  like : (a b x : CellId) (j : ℕ) → cell_width g a ≡ cell_width g b → (x ≡ a) ⊎ (x ≡ b) → j < W a → j < cell_width g x
  like a b x j e (inl s) l = subst (λ y. j < cell_width g y) (sym s) (within a j l)
  like a b x j e (inr s) l = let w = within a j l in subst (λ y. j < cell_width g y) (sym s) (omega arith)

  pair : (c : Cell) (a b : CellId) (i : ℕ) (d : Bit) → cell_width g a ≡ cell_width g b → i < W a
      → ((x : CellId) → (x ≡ a) ⊎ (x ≡ b) → IsMadeOf g cube c i x i) → (R a i d || R b i d) ≡ true → Makes c i d
  pair c a b i d e l made h = let s = either a b i d h in (s.0, i, made s.0 s.1, like a b s.0 i e s.1 l, s.2)

  pairs : (c : Cell) (a b : CellId) (i n : ℕ) (d : Bit) → cell_width g a ≡ cell_width g b → n ≤ W a
      → ((x : CellId) (j : ℕ) → (x ≡ a) ⊎ (x ≡ b) → j < n → IsMadeOf g cube c i x j) → any_below (λ j. R a j d || R b j d) n ≡ true → Makes c i d
  pairs c a b i n d e l made h =
      let t = any-some (λ j. R a j d || R b j d) n h in
      let s = either a b t.0 d t.2 in
      let m = t.1 in
      (s.0, t.0, made s.0 t.0 s.1 t.1, like a b s.0 t.0 e s.1 (omega arith), s.2)

  any-of : (a b : CellId) (d : Bit) → (any_below (λ j. R a j d) (W a) || any_below (λ j. R b j d) (W b)) ≡ true
      → (x : CellId) × (j : ℕ) × IsAnyBit g a b x j × (j < cell_width g x) × (R x j d ≡ true)
  any-of a b d h = elim (or-true (any_below (λ j. R a j d) (W a)) (any_below (λ j. R b j d) (W b)) h) [
    | inl k ↦ (let s = any-some (λ j. R a j d) (W a) k in let l = within a s.0 s.1 in (a, s.0, (inl refl, l), l, s.2))
    | inr k ↦ (let s = any-some (λ j. R b j d) (W b) k in let l = within b s.0 s.1 in (b, s.0, (inr refl, l), l, s.2))
  ]

  moved-up : (a by : CellId) (i : ℕ) (d : Bit) (o : Option ℕ)
      → on_number o (any_below (λ j. R a j d) (W a) || any_below (λ j. R by j d) (W by)) (λ n. cond (nat_lt i n) false (cond (nat_lt (i - n) (W a)) (R a (i - n) d) false)) ≡ true
      → (x : CellId) × (j : ℕ) × IsMovedUp g o a by i x j × (j < cell_width g x) × (R x j d ≡ true)
  moved-up a by i d None h = any-of a by d h
  moved-up a by i d (Some n) h = go (nat_lt i n) refl h
    where
      go : (b : Bool) → nat_lt i n ≡ b → cond b false (cond (nat_lt (i - n) (W a)) (R a (i - n) d) false) ≡ true
          → (x : CellId) × (j : ℕ) × IsMovedUp g (Some n) a by i x j × (j < cell_width g x) × (R x j d ≡ true)
      go true s k = absurd (cc)
      go false s k = in_a (nat_lt (i - n) (W a)) refl k
        where
          in_a : (b : Bool) → nat_lt (i - n) (W a) ≡ b → cond b (R a (i - n) d) false ≡ true
              → (x : CellId) × (j : ℕ) × IsMovedUp g (Some n) a by i x j × (j < cell_width g x) × (R x j d ≡ true)
          in_a true t m = (a, i - n, (refl, (let l = ltb-false i n s in let e : i ≡ (i - n) + n = omega arith in e)), within a (i - n) (ltb-true (i - n) (W a) t), m)
          in_a false t m = absurd (cc)

  moved-down : (a by : CellId) (i : ℕ) (d : Bit) (o : Option ℕ)
      → on_number o (any_below (λ j. R a j d) (W a) || any_below (λ j. R by j d) (W by)) (λ n. cond (nat_lt (i + n) (W a)) (R a (i + n) d) false) ≡ true
      → (x : CellId) × (j : ℕ) × IsMovedDown g o a by i x j × (j < cell_width g x) × (R x j d ≡ true)
  moved-down a by i d None h = any-of a by d h
  moved-down a by i d (Some n) h = go (nat_lt (i + n) (W a)) refl h
    where
      go : (b : Bool) → nat_lt (i + n) (W a) ≡ b → cond b (R a (i + n) d) false ≡ true
          → (x : CellId) × (j : ℕ) × IsMovedDown g (Some n) a by i x j × (j < cell_width g x) × (R x j d ≡ true)
      go true t m = (a, i + n, (refl, refl), within a (i + n) (ltb-true (i + n) (W a) t), m)
      go false t m = absurd (cc)

  of-choice : (c y z : CellId) (i : ℕ) (d : Bit) (o : Option Bool) → 0 < W c → i < W y → cell_width g y ≡ cell_width g z
      → chosen o (R y i d) (R z i d) (R c 0 d || (R y i d || R z i d)) ≡ true
      → (x : CellId) × (j : ℕ) × IsOfChoice o c y z i x j × (j < cell_width g x) × (R x j d ≡ true)
  of-choice c y z i d (Some true) one l e h = (y, i, (refl, refl), within y i l, h)
  of-choice c y z i d (Some false) one l e h = (z, i, (refl, refl), like y z z i e (inr refl) l, h)
  of-choice c y z i d None one l e h = elim (or-true (R c 0 d) (R y i d || R z i d) h) [
    | inl k ↦ (c, 0, inl (refl, refl), within c 0 one, k)
    | inr k ↦ (let s = either y z i d k in (s.0, i, inr (s.1, refl), like y z s.0 i e s.1 l, s.2))
  ]

  all-bits : (c : Cell) (a : CellId) (i : ℕ) (d : Bit) → ((j : ℕ) → j < cell_width g a → IsMadeOf g cube c i a j) → any_below (λ j. R a j d) (W a) ≡ true → Makes c i d
  all-bits c a i d made h = let s = any-some (λ j. R a j d) (W a) h in let l = within a s.0 s.1 in (a, s.0, made s.0 l, l, s.2)

  made-by : (c : Cell) → cell_at g id ≡ c → (i : ℕ) → i < width (T c) → known cube (T c) i ≡ None → same cube (T c) i ≡ None → (d : Bit) → reads cube (T c) i d ≡ true → Makes c i d
  made-by (cell.Var sig) e i l k s d h =
      let m = sym (but-made (known cube (T (cell.Var sig)) i) (same cube (T (cell.Var sig)) i) d false k s) in absurd (cc)
  made-by (cell.Const w value) e i l k s d h = absurd (cc)
  made-by (cell.Not a) e i l k s d h = (a, i, (refl, refl), within a i l, sym (but-made (known cube (T (cell.Not a)) i) None d (R a i d) k refl) ∙ h)
  made-by (cell.And a b) e i l k s d h = pair (cell.And a b) a b i d (is-cell (cell.And a b) e).2 l (λ x p. (p, refl))
      (sym (but-made (known cube (T (cell.And a b)) i) (same cube (T (cell.And a b)) i) d (R a i d || R b i d) k s) ∙ h)
  made-by (cell.Or a b) e i l k s d h = pair (cell.Or a b) a b i d (is-cell (cell.Or a b) e).2 l (λ x p. (p, refl))
      (sym (but-made (known cube (T (cell.Or a b)) i) (same cube (T (cell.Or a b)) i) d (R a i d || R b i d) k s) ∙ h)
  made-by (cell.Xor a b) e i l k s d h = pair (cell.Xor a b) a b i d (is-cell (cell.Xor a b) e).2 l (λ x p. (p, refl))
      (sym (but-made (known cube (T (cell.Xor a b)) i) (same cube (T (cell.Xor a b)) i) d (R a i d || R b i d) k s) ∙ h)
  made-by (cell.Add a b) e i l k s d h = pairs (cell.Add a b) a b i (suc i) d (is-cell (cell.Add a b) e).2 (omega arith) (λ x j p m. (p, omega arith))
      (sym (but-made (known cube (T (cell.Add a b)) i) None d (any_below (λ j. R a j d || R b j d) (suc i)) k refl) ∙ h)
  made-by (cell.Sub a b) e i l k s d h = pairs (cell.Sub a b) a b i (suc i) d (is-cell (cell.Sub a b) e).2 (omega arith) (λ x j p m. (p, omega arith))
      (sym (but-made (known cube (T (cell.Sub a b)) i) None d (any_below (λ j. R a j d || R b j d) (suc i)) k refl) ∙ h)
  made-by (cell.Eq a b) e i l k s d h = pairs (cell.Eq a b) a b i (W a) d (is-cell (cell.Eq a b) e).2 (omega arith) (λ x j p m. (p, within a j m))
      (sym (but-made (known cube (T (cell.Eq a b)) i) None d (any_below (λ j. R a j d || R b j d) (W a)) k refl) ∙ h)
  made-by (cell.Lt a b) e i l k s d h = pairs (cell.Lt a b) a b i (W a) d (is-cell (cell.Lt a b) e).2 (omega arith) (λ x j p m. (p, within a j m))
      (sym (but-made (known cube (T (cell.Lt a b)) i) None d (any_below (λ j. R a j d || R b j d) (W a)) k refl) ∙ h)
  made-by (cell.Shl a by) e i l k s d h = moved-up a by i d (known_number (K by) (cell_width g by))
      (ap (λ w. on_number (known_number (K by) w) (any_below (λ j. R a j d) (W a) || any_below (λ j. R by j d) (W by)) (λ n. cond (nat_lt i n) false (cond (nat_lt (i - n) (W a)) (R a (i - n) d) false))) (width-tree_of g by) ∙ h)
  made-by (cell.Shr a by) e i l k s d h = moved-down a by i d (known_number (K by) (cell_width g by))
      (ap (λ w. on_number (known_number (K by) w) (any_below (λ j. R a j d) (W a) || any_below (λ j. R by j d) (W by)) (λ n. cond (nat_lt (i + n) (W a)) (R a (i + n) d) false)) (width-tree_of g by) ∙ h)
  made-by (cell.Mux c y z) e i l k s d h =
      let is = is-cell (cell.Mux c y z) e in
      of-choice c y z i d (K c 0) (let one = is.1 in let w = width-tree_of g c in omega arith) l is.2.2
      (sym (but-made (known cube (T (cell.Mux c y z)) i) (same cube (T (cell.Mux c y z)) i) d (chosen (K c 0) (R y i d) (R z i d) (R c 0 d || (R y i d || R z i d))) k s) ∙ h)
  made-by (cell.Concat high low) e i l k s d h = go (nat_lt i (W low)) refl h
    where
      go : (b : Bool) → nat_lt i (W low) ≡ b → cond b (R low i d) (R high (i - W low) d) ≡ true → Makes (cell.Concat high low) i d
      go true t m = let n = within low i (ltb-true i (W low) t) in (low, i, inl (refl, n, refl), n, m)
      go false t m =
          let n = ltb-false i (W low) t in
          let w = width-tree_of g low in
          let f : i ≡ (i - W low) + cell_width g low = omega arith in
          (high, i - W low, inr (refl, f), within high (i - W low) (omega arith), m)
  made-by (cell.Slice a at w) e i l k s d h = let fits = (is-cell (cell.Slice a at w) e).2 in (a, at + i, (refl, refl), omega arith, h)
  made-by (cell.Extend a w) e i l k s d h = go (nat_lt i (W a)) refl h
    where
      go : (b : Bool) → nat_lt i (W a) ≡ b → cond b (R a i d) false ≡ true → Makes (cell.Extend a w) i d
      go true t m = let n = within a i (ltb-true i (W a) t) in (a, i, (refl, n, refl), n, m)
      go false t m = absurd (cc)
  made-by (cell.Reduce kind.And a) e i l k s d h = all-bits (cell.Reduce kind.And a) a i d (λ j m. (refl, m))
      (sym (but-made (known cube (T (cell.Reduce kind.And a)) i) (same cube (T (cell.Reduce kind.And a)) i) d (any_below (λ j. R a j d) (W a)) k s) ∙ h)
  made-by (cell.Reduce kind.Or a) e i l k s d h = all-bits (cell.Reduce kind.Or a) a i d (λ j m. (refl, m))
      (sym (but-made (known cube (T (cell.Reduce kind.Or a)) i) (same cube (T (cell.Reduce kind.Or a)) i) d (any_below (λ j. R a j d) (W a)) k s) ∙ h)
  made-by (cell.Reduce kind.Xor a) e i l k s d h = all-bits (cell.Reduce kind.Xor a) a i d (λ j m. (refl, m))
      (sym (but-made (known cube (T (cell.Reduce kind.Xor a)) i) (same cube (T (cell.Reduce kind.Xor a)) i) d (any_below (λ j. R a j d) (W a)) k s) ∙ h)

  -- what a bit reads that is not known and equals no state bit, a bit reads of which it is made
  pub reads-made : (i : ℕ) → i < cell_width g id → known cube (tree_of g id) i ≡ None → same cube (tree_of g id) i ≡ None → (d : Bit) → reads cube (tree_of g id) i d ≡ true → Makes (cell_at g id) i d
  reads-made i l k s d h =
      let e = tree (cell_at g id) refl in
      made-by (cell_at g id) refl i (let w = width-tree_of g id in let v = ap width e in omega arith)
      (ap (λ t. known cube t i) (sym e) ∙ k) (ap (λ t. same cube t i) (sym e) ∙ s) d (ap (λ t. reads cube t i d) (sym e) ∙ h)

  -- ---- and the other way round

  moved : (x a : CellId) (j i : ℕ) (d : Bit) → x ≡ a → j ≡ i → R x j d ≡ true → R a i d ≡ true
  moved x a j i d e f h = sym (ap₂ (λ y k. R y k d) e f) ∙ h

  from-pair : (a b x : CellId) (j : ℕ) (d : Bit) → (x ≡ a) ⊎ (x ≡ b) → R x j d ≡ true → (R a j d || R b j d) ≡ true
  from-pair a b x j d (inl e) h = or-first (R a j d) (R b j d) (moved x a j j d e refl h)
  from-pair a b x j d (inr e) h = or-second (R a j d) (R b j d) (moved x b j j d e refl h)

  from-pair_at : (a b x : CellId) (j i : ℕ) (d : Bit) → ((x ≡ a) ⊎ (x ≡ b)) × (j ≡ i) → R x j d ≡ true → (R a i d || R b i d) ≡ true
  from-pair_at a b x j i d m h = from-pair a b x i d m.0 (moved x x j i d refl m.1 h)

  from-pairs : (a b x : CellId) (j n : ℕ) (d : Bit) → (x ≡ a) ⊎ (x ≡ b) → j < n → R x j d ≡ true → any_below (λ k. R a k d || R b k d) n ≡ true
  from-pairs a b x j n d e l h = any-there (λ k. R a k d || R b k d) n j l (from-pair a b x j d e h)

  from-any : (a b x : CellId) (j : ℕ) (d : Bit) → (x ≡ a) ⊎ (x ≡ b) → j < cell_width g x → R x j d ≡ true → (any_below (λ k. R a k d) (W a) || any_below (λ k. R b k d) (W b)) ≡ true
  from-any a b x j d (inl e) l h = or-first (any_below (λ k. R a k d) (W a)) (any_below (λ k. R b k d) (W b))
      (any-there (λ k. R a k d) (W a) j (let w = width-tree_of g x in subst (λ y. j < W y) e (omega arith)) (moved x a j j d e refl h))
  from-any a b x j d (inr e) l h = or-second (any_below (λ k. R a k d) (W a)) (any_below (λ k. R b k d) (W b))
      (any-there (λ k. R b k d) (W b) j (let w = width-tree_of g x in subst (λ y. j < W y) e (omega arith)) (moved x b j j d e refl h))

  from-up : (a by x : CellId) (i j : ℕ) (d : Bit) (o : Option ℕ) → IsMovedUp g o a by i x j → j < cell_width g x → R x j d ≡ true
      → on_number o (any_below (λ j. R a j d) (W a) || any_below (λ j. R by j d) (W by)) (λ n. cond (nat_lt i n) false (cond (nat_lt (i - n) (W a)) (R a (i - n) d) false)) ≡ true
  from-up a by x i j d None m l h = from-any a by x j d m.0 l h
  from-up a by x i j d (Some n) m l h =
      let e = m.1 in
      let w = width-tree_of g x in
      let inside : j < W a = subst (λ y. j < W y) m.0 (omega arith) in
      let f : j ≡ i - n = omega arith in
      ap₂ (λ p q. cond p false (cond q (R a (i - n) d) false)) (below (nat_lt i n) refl) (lt-ltb (i - n) (W a) (omega arith)) ∙ moved x a j (i - n) d m.0 f h
    where
      below : (b : Bool) → nat_lt i n ≡ b → nat_lt i n ≡ false
      below true t = let l = ltb-true i n t in let e = m.1 in absurd (omega arith)
      below false t = t

  from-down : (a by x : CellId) (i j : ℕ) (d : Bit) (o : Option ℕ) → IsMovedDown g o a by i x j → j < cell_width g x → R x j d ≡ true
      → on_number o (any_below (λ j. R a j d) (W a) || any_below (λ j. R by j d) (W by)) (λ n. cond (nat_lt (i + n) (W a)) (R a (i + n) d) false) ≡ true
  from-down a by x i j d None m l h = from-any a by x j d m.0 l h
  from-down a by x i j d (Some n) m l h =
      let e = m.1 in
      let w = width-tree_of g x in
      let inside : j < W a = subst (λ y. j < W y) m.0 (omega arith) in
      ap (λ q. cond q (R a (i + n) d) false) (lt-ltb (i + n) (W a) (omega arith)) ∙ moved x a j (i + n) d m.0 e h

  from-choice : (c y z x : CellId) (i j : ℕ) (d : Bit) (o : Option Bool) → IsOfChoice o c y z i x j → R x j d ≡ true
      → chosen o (R y i d) (R z i d) (R c 0 d || (R y i d || R z i d)) ≡ true
  from-choice c y z x i j d (Some true) m h = moved x y j i d m.0 m.1 h
  from-choice c y z x i j d (Some false) m h = moved x z j i d m.0 m.1 h
  from-choice c y z x i j d None (inl m) h = or-first (R c 0 d) (R y i d || R z i d) (moved x c j 0 d m.0 m.1 h)
  from-choice c y z x i j d None (inr m) h = or-second (R c 0 d) (R y i d || R z i d) (from-pair_at y z x j i d m h)

  from-all : (a x : CellId) (j : ℕ) (d : Bit) → (x ≡ a) × (j < cell_width g a) → R x j d ≡ true → any_below (λ k. R a k d) (W a) ≡ true
  from-all a x j d m h = any-there (λ k. R a k d) (W a) j (let l = m.1 in let w = width-tree_of g a in omega arith) (moved x a j j d m.0 refl h)

  from-maker : (c : Cell) → cell_at g id ≡ c → (i : ℕ) → known cube (T c) i ≡ None → same cube (T c) i ≡ None → (x : CellId) (j : ℕ) → IsMadeOf g cube c i x j → j < cell_width g x
      → (d : Bit) → R x j d ≡ true → reads cube (T c) i d ≡ true
  from-maker (cell.Var sig) e i k s x j m l d h = absurd m
  from-maker (cell.Const w value) e i k s x j m l d h = absurd m
  from-maker (cell.Not a) e i k s x j m l d h = but-made (known cube (T (cell.Not a)) i) None d (R a i d) k refl ∙ moved x a j i d m.0 m.1 h
  from-maker (cell.And a b) e i k s x j m l d h = but-made (known cube (T (cell.And a b)) i) (same cube (T (cell.And a b)) i) d (R a i d || R b i d) k s ∙ from-pair_at a b x j i d m h
  from-maker (cell.Or a b) e i k s x j m l d h = but-made (known cube (T (cell.Or a b)) i) (same cube (T (cell.Or a b)) i) d (R a i d || R b i d) k s ∙ from-pair_at a b x j i d m h
  from-maker (cell.Xor a b) e i k s x j m l d h = but-made (known cube (T (cell.Xor a b)) i) (same cube (T (cell.Xor a b)) i) d (R a i d || R b i d) k s ∙ from-pair_at a b x j i d m h
  from-maker (cell.Add a b) e i k s x j m l d h = but-made (known cube (T (cell.Add a b)) i) None d (any_below (λ j. R a j d || R b j d) (suc i)) k refl
      ∙ from-pairs a b x j (suc i) d m.0 (let n = m.1 in omega arith) h
  from-maker (cell.Sub a b) e i k s x j m l d h = but-made (known cube (T (cell.Sub a b)) i) None d (any_below (λ j. R a j d || R b j d) (suc i)) k refl
      ∙ from-pairs a b x j (suc i) d m.0 (let n = m.1 in omega arith) h
  from-maker (cell.Eq a b) e i k s x j m l d h = but-made (known cube (T (cell.Eq a b)) i) None d (any_below (λ j. R a j d || R b j d) (W a)) k refl
      ∙ from-pairs a b x j (W a) d m.0 (let n = m.1 in let w = width-tree_of g a in omega arith) h
  from-maker (cell.Lt a b) e i k s x j m l d h = but-made (known cube (T (cell.Lt a b)) i) None d (any_below (λ j. R a j d || R b j d) (W a)) k refl
      ∙ from-pairs a b x j (W a) d m.0 (let n = m.1 in let w = width-tree_of g a in omega arith) h
  from-maker (cell.Shl a by) e i k s x j m l d h =
      ap (λ w. on_number (known_number (K by) w) (any_below (λ j. R a j d) (W a) || any_below (λ j. R by j d) (W by)) (λ n. cond (nat_lt i n) false (cond (nat_lt (i - n) (W a)) (R a (i - n) d) false))) (sym (width-tree_of g by))
      ∙ from-up a by x i j d (known_number (K by) (cell_width g by)) m l h
  from-maker (cell.Shr a by) e i k s x j m l d h =
      ap (λ w. on_number (known_number (K by) w) (any_below (λ j. R a j d) (W a) || any_below (λ j. R by j d) (W by)) (λ n. cond (nat_lt (i + n) (W a)) (R a (i + n) d) false)) (sym (width-tree_of g by))
      ∙ from-down a by x i j d (known_number (K by) (cell_width g by)) m l h
  from-maker (cell.Mux c y z) e i k s x j m l d h =
      but-made (known cube (T (cell.Mux c y z)) i) (same cube (T (cell.Mux c y z)) i) d (chosen (K c 0) (R y i d) (R z i d) (R c 0 d || (R y i d || R z i d))) k s
      ∙ from-choice c y z x i j d (K c 0) m h
  from-maker (cell.Concat high low) e i k s x j (inl m) l d h =
      ap (λ b. cond b (R low i d) (R high (i - W low) d)) (lt-ltb i (W low) (let n = m.1 in let w = width-tree_of g low in omega arith)) ∙ moved x low j i d m.0 m.2 h
  from-maker (cell.Concat high low) e i k s x j (inr m) l d h =
      ap (λ b. cond b (R low i d) (R high (i - W low) d)) (above (nat_lt i (W low)) refl)
      ∙ moved x high j (i - W low) d m.0 (let n = m.1 in let w = width-tree_of g low in let f : j ≡ i - W low = omega arith in f) h
    where
      above : (b : Bool) → nat_lt i (W low) ≡ b → nat_lt i (W low) ≡ false
      above true t = let n = ltb-true i (W low) t in let f = m.1 in let w = width-tree_of g low in absurd (omega arith)
      above false t = t
  from-maker (cell.Slice a at w) e i k s x j m l d h = moved x a j (at + i) d m.0 m.1 h
  from-maker (cell.Extend a w) e i k s x j m l d h =
      ap (λ b. cond b (R a i d) false) (lt-ltb i (W a) (let n = m.1 in let v = width-tree_of g a in omega arith)) ∙ moved x a j i d m.0 m.2 h
  from-maker (cell.Reduce kind.And a) e i k s x j m l d h =
      but-made (known cube (T (cell.Reduce kind.And a)) i) (same cube (T (cell.Reduce kind.And a)) i) d (any_below (λ j. R a j d) (W a)) k s ∙ from-all a x j d m h
  from-maker (cell.Reduce kind.Or a) e i k s x j m l d h =
      but-made (known cube (T (cell.Reduce kind.Or a)) i) (same cube (T (cell.Reduce kind.Or a)) i) d (any_below (λ j. R a j d) (W a)) k s ∙ from-all a x j d m h
  from-maker (cell.Reduce kind.Xor a) e i k s x j m l d h =
      but-made (known cube (T (cell.Reduce kind.Xor a)) i) (same cube (T (cell.Reduce kind.Xor a)) i) d (any_below (λ j. R a j d) (W a)) k s ∙ from-all a x j d m h

  -- a bit that is not known and equals no state bit reads what a bit reads of which it is made
  pub made-reads : (i : ℕ) → known cube (tree_of g id) i ≡ None → same cube (tree_of g id) i ≡ None → (x : CellId) (j : ℕ) → IsMadeOf g cube (cell_at g id) i x j → j < cell_width g x
      → (d : Bit) → reads cube (tree_of g x) j d ≡ true → reads cube (tree_of g id) i d ≡ true
  made-reads i k s x j m l d h =
      let e = tree (cell_at g id) refl in
      ap (λ t. reads cube t i d) e ∙ from-maker (cell_at g id) refl i (ap (λ t. known cube t i) (sym e) ∙ k) (ap (λ t. same cube t i) (sym e) ∙ s) x j m l d h

any-operand : (g : Cells) (o : Option ℕ) (a by : CellId) (i : ℕ) (x : CellId) (j : ℕ) → IsMovedUp g o a by i x j → (x ≡ a) ⊎ (x ≡ by)
any-operand g (Some n) a by i x j m = inl m.0
any-operand g None a by i x j m = m.0

down-operand : (g : Cells) (o : Option ℕ) (a by : CellId) (i : ℕ) (x : CellId) (j : ℕ) → IsMovedDown g o a by i x j → (x ≡ a) ⊎ (x ≡ by)
down-operand g (Some n) a by i x j m = inl m.0
down-operand g None a by i x j m = m.0

choice-operand : (o : Option Bool) (c y z : CellId) (i : ℕ) (x : CellId) (j : ℕ) → IsOfChoice o c y z i x j → (x ≡ c) ⊎ ((x ≡ y) ⊎ (x ≡ z))
choice-operand (Some true) c y z i x j m = inr (inl m.0)
choice-operand (Some false) c y z i x j m = inr (inr m.0)
choice-operand None c y z i x j (inl m) = inl m.0
choice-operand None c y z i x j (inr m) = inr m.0

-- a cell is made of bits of its operands
pub made-operand : (g : Cells) (cube : Cube) (c : Cell) (i : ℕ) (x : CellId) (j : ℕ) → IsMadeOf g cube c i x j → IsOperand c x
made-operand g cube (cell.Var sig) i x j m = m
made-operand g cube (cell.Const w value) i x j m = m
made-operand g cube (cell.Not a) i x j m = m.0
made-operand g cube (cell.And a b) i x j m = m.0
made-operand g cube (cell.Or a b) i x j m = m.0
made-operand g cube (cell.Xor a b) i x j m = m.0
made-operand g cube (cell.Add a b) i x j m = m.0
made-operand g cube (cell.Sub a b) i x j m = m.0
made-operand g cube (cell.Eq a b) i x j m = m.0
made-operand g cube (cell.Lt a b) i x j m = m.0
made-operand g cube (cell.Shl a by) i x j m = any-operand g (known_number (known cube (tree_of g by)) (cell_width g by)) a by i x j m
made-operand g cube (cell.Shr a by) i x j m = down-operand g (known_number (known cube (tree_of g by)) (cell_width g by)) a by i x j m
made-operand g cube (cell.Mux c y z) i x j m = choice-operand (known cube (tree_of g c) 0) c y z i x j m
made-operand g cube (cell.Concat high low) i x j (inl m) = inr m.0
made-operand g cube (cell.Concat high low) i x j (inr m) = inl m.0
made-operand g cube (cell.Slice a at w) i x j m = m.0
made-operand g cube (cell.Extend a w) i x j m = m.0
made-operand g cube (cell.Reduce k a) i x j m = m.0
