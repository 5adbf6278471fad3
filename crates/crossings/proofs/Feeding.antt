-- The feeds of a bit: what makes it is among them, and each is a bit of an operand.
use Rattle.std.proofs.Common.{◌≡◌, ◌∙◌, ◌⊎◌, inl, inr, refl, sym, ap, ap₂, subst, arith, ℕ, zero, suc, ◌+◌, ◌-◌, ◌*◌, ◌/◌, ◌<◌, ◌≤◌, Bool, true, false, cond, nat_lt, ltb-true, ltb-false, lt-ltb, length, length-append, List, [], ◌∷◌, ◌++◌, Option, Some, None}
use Rattle.std.specs.List.{Contains}
use Rattle.std.proofs.lemmas.List.Elements.{Contains-append_left, Contains-append_right, Contains-append_cases}
use Rattle.std.proofs.Math.Nat.{mod-eq_of_lt}
use Rattle.cell_graph.specs.declared.cell.Cell.{Cell}
use Rattle.cell_graph.specs.declared.cell.Cell.TheVariants.{Var, Const, Not, And, Or, Xor, Add, Sub, Eq, Lt, Shl, Shr, Mux, Concat, Slice, Extend, Reduce}
use Rattle.cell_graph.specs.declared.cell.CellId.{CellId}
use Rattle.cell_graph.specs.declared.cell.Node.{Node}
use Rattle.cell_graph.specs.declared.feeds.Passed.{Passed}
use Rattle.cell_graph.specs.declared.feeds.Passed.TheVariants.{Bit, Zero, Other}
use Rattle.cell_graph.specs.Below.{IsOperand}
use Rattle.cell_graph.specs.Cells.{Cells, cell_at, cell_width}
use Rattle.cell_graph.specs.Cofactor.{known, known_number}
use Rattle.cell_graph.specs.Feeds.{node, bit_or_zero, moved_up, moved_down, constant, by_constant, bits_from, pairs_from, all_bits, feeds_passed, feeds_of}
use Rattle.cell_graph.specs.Tree.{width, bit_at}
use Rattle.cell_graph.specs.Unfolded.{unfolded, trees, tree_of, IsCellOf, IsWellFormed}
use Rattle.cell_graph.proofs.Cones.{cell-there}
use Rattle.cell_graph.proofs.FeedLists.{bit_at-is, pair-first, pair-second, length-bits_from, length-pairs_from}
use Rattle.cell_graph.proofs.Trees.{width-tree_of, tree_of-cell}
use Rattle.cell_graph.proofs.Words.{number-bits}
use Rattle.cofactor.specs.Made.{IsMovedUp, IsMovedDown, IsOfChoice, IsMadeOf}
use Rattle.cofactor.proofs.Arms.{small-width}
use Rattle.cofactor.proofs.ReadBits.{made-operand}
use Rattle.cdc_model.proofs.Ascending.{here, later, parts, nothing_in}
use Rattle.cdc_model.proofs.GrayShape.{number_known}
use Rattle.cdc_model.proofs.Justify.{slice_in}

-- ---- rows of bits

in-bits : (a : CellId) (k n : ℕ) → k < n → Contains (bits_from a 0 n) (node a k)
in-bits a k n l = slice_in (bits_from a 0 n) k (node a k) (bit_at-is a k n l)

in-pairs : (a d x : CellId) (k n : ℕ) → k < n → (x ≡ a) ⊎ (x ≡ d) → Contains (pairs_from a d 0 n) (node x k)
in-pairs a d x k n l (inl e) = subst (λ y. Contains (pairs_from a d 0 n) (node y k)) (sym e)
    (slice_in (pairs_from a d 0 n) (2 * k) (node a k) (pair-first a d (2 * k) n (omega arith) (omega arith) ∙ ap (λ i. Some (node a i)) (let h : 2 * k / 2 ≡ k = omega arith in h)))
in-pairs a d x k n l (inr e) = subst (λ y. Contains (pairs_from a d 0 n) (node y k)) (sym e)
    (slice_in (pairs_from a d 0 n) (2 * k + 1) (node d k) (pair-second a d (2 * k + 1) n (omega arith) (λ z. omega arith) ∙ ap (λ i. Some (node d i)) (let h : (2 * k + 1) / 2 ≡ k = omega arith in h)))

in-two : (a d x : CellId) (i j : ℕ) → (x ≡ a) ⊎ (x ≡ d) → j ≡ i → Contains (node a i ∷ node d i ∷ []) (node x j)
in-two a d x i j (inl e) f = subst (Contains (node a i ∷ node d i ∷ [])) (sym (ap₂ node e f)) (here (node a i) (node d i ∷ []))
in-two a d x i j (inr e) f = subst (Contains (node a i ∷ node d i ∷ [])) (sym (ap₂ node e f)) (later (node a i) (node d i ∷ []) (node d i) (here (node d i) []))

in-one : (m n : Node) → n ≡ m → Contains (m ∷ []) n
in-one m n e = subst (Contains (m ∷ [])) (sym e) (here m [])

from-bits : (a : CellId) (i n : ℕ) (m : Node) → Contains (bits_from a i n) m → (m.cell ≡ a) × (m.at < i + n)
from-bits a i zero m h = absurd (nothing_in m h)
from-bits a i (suc n) m h = elim (parts (node a i) (bits_from a (suc i) n) m h) [
  | inl e ↦ (sym (ap (λ (k : Node). k.cell) e), omega (arith, ap (λ (k : Node). k.at) e))
  | inr k ↦ (let p = from-bits a (suc i) n m k in (p.0, omega (arith, p.1)))
]

from-pairs : (a d : CellId) (i n : ℕ) (m : Node) → Contains (pairs_from a d i n) m → ((m.cell ≡ a) ⊎ (m.cell ≡ d)) × (m.at < i + n)
from-pairs a d i zero m h = absurd (nothing_in m h)
from-pairs a d i (suc n) m h = elim (parts (node a i) (node d i ∷ pairs_from a d (suc i) n) m h) [
  | inl e ↦ (inl (sym (ap (λ (k : Node). k.cell) e)), omega (arith, ap (λ (k : Node). k.at) e))
  | inr t ↦ elim (parts (node d i) (pairs_from a d (suc i) n) m t) [
    | inl e ↦ (inr (sym (ap (λ (k : Node). k.cell) e)), omega (arith, ap (λ (k : Node). k.at) e))
    | inr k ↦ (let p = from-pairs a d (suc i) n m k in (p.0, omega (arith, p.1)))
  ]
]

from-one : (n m : Node) → Contains (n ∷ []) m → n ≡ m
from-one n m h = elim (parts n [] m h) [ inl e ↦ e | inr k ↦ absurd (nothing_in m k) ]

not-below : (i n : ℕ) → n ≤ i → nat_lt i n ≡ false
not-below i n le = go (nat_lt i n) refl
  where
    go : (v : Bool) → nat_lt i n ≡ v → nat_lt i n ≡ false
    go true t = let l = ltb-true i n t in absurd (omega arith)
    go false t = t

module _ (g : Cells) (well : IsWellFormed g) (id : CellId) (lt : id.0 < length g.cells) where
  abbrev W : CellId → ℕ
  W x = cell_width g x

  is-cell : (c : Cell) → cell_at g id ≡ c → IsCellOf g id.0 c
  is-cell c e = well.cells id.0 c (cell-there g id lt ∙ ap Some e)

  own-width : (c : Cell) → cell_at g id ≡ c → W id ≡ width (unfolded g.signals (trees g) c)
  own-width c e = width-tree_of g id ∙ ap width (tree_of-cell g well id c (cell-there g id lt ∙ ap Some e))

  -- ---- what makes a bit is among its feeds

  passed-part : (a x : CellId) (k j : ℕ) → x ≡ a → k ≡ j → j < W x → bit_or_zero g a k ≡ Bit (node x j)
  passed-part a x k j e f l =
      ap (λ v. cond v (Bit (node a k)) Zero) (lt-ltb k (W a) (subst (λ y. k < W y) e (omega arith))) ∙ ap Bit (ap₂ node (sym e) f)

  -- the value of a constant is known
  constant-known : (by : CellId) → by.0 < length g.cells → (v : ℕ) → constant (cell_at g by) ≡ Some v → known_number (known [] (tree_of g by)) (W by) ≡ Some v
  constant-known by there v h = go (cell_at g by) refl h
    where
      go : (c : Cell) → cell_at g by ≡ c → constant c ≡ Some v → known_number (known [] (tree_of g by)) (W by) ≡ Some v
      go (Const w value) e k =
          let at = cell-there g by there ∙ ap Some e in
          let t = tree_of-cell g well by (Const w value) at in
          let fits = well.cells by.0 (Const w value) at in
          ap₂ (λ u n. known_number (known [] u) n) t (width-tree_of g by ∙ ap width t) ∙ number_known (bit_at value) w ∙ ap Some (number-bits value w ∙ mod-eq_of_lt fits.2) ∙ k
      go c e k = absurd (cc)

  in-shifted : (a by x : CellId) (j : ℕ) → (x ≡ a) ⊎ (x ≡ by) → j < W x → Contains (all_bits g a ++ all_bits g by) (node x j)
  in-shifted a by x j (inl e) l = Contains-append_left (all_bits g a) (all_bits g by) (node x j) (subst (λ y. Contains (all_bits g a) (node y j)) (sym e) (in-bits a j (W a) (subst (λ y. j < W y) e l)))
  in-shifted a by x j (inr e) l = Contains-append_right (all_bits g a) (all_bits g by) (node x j) (subst (λ y. Contains (all_bits g by) (node y j)) (sym e) (in-bits by j (W by) (subst (λ y. j < W y) e l)))

  in-passed : (p : Passed) (others : List Node) (m : Node) → p ≡ Bit m → Contains (feeds_passed p others) m
  in-passed p others m e = subst (λ q. Contains (feeds_passed q others) m) (sym e) (here m [])

  in-up : (a by x : CellId) (i j : ℕ) (o k : Option ℕ) → ((v : ℕ) → o ≡ Some v → k ≡ Some v) → IsMovedUp g k a by i x j → (x ≡ a) ⊎ (x ≡ by) → j < W x
      → Contains (feeds_passed (by_constant o (moved_up g a i)) (all_bits g a ++ all_bits g by)) (node x j)
  in-up a by x i j None k is m p l = in-shifted a by x j p l
  in-up a by x i j (Some v) k is m p l =
      let n = subst (λ q. IsMovedUp g q a by i x j) (is v refl) m in
      in-passed (moved_up g a i v) (all_bits g a ++ all_bits g by) (node x j)
      (ap (λ u. cond u Zero (bit_or_zero g a (i - v))) (not-below i v (omega (arith, n.1))) ∙ passed-part a x (i - v) j n.0 (omega (arith, n.1)) l)

  in-down : (a by x : CellId) (i j : ℕ) (o k : Option ℕ) → ((v : ℕ) → o ≡ Some v → k ≡ Some v) → IsMovedDown g k a by i x j → (x ≡ a) ⊎ (x ≡ by) → j < W x
      → Contains (feeds_passed (by_constant o (moved_down g a i)) (all_bits g a ++ all_bits g by)) (node x j)
  in-down a by x i j None k is m p l = in-shifted a by x j p l
  in-down a by x i j (Some v) k is m p l =
      let n = subst (λ q. IsMovedDown g q a by i x j) (is v refl) m in
      in-passed (moved_down g a i v) (all_bits g a ++ all_bits g by) (node x j) (passed-part a x (i + v) j n.0 (sym n.1) l)

  in-choice : (c y z x : CellId) (i j : ℕ) (o : Option Bool) → IsOfChoice o c y z i x j → Contains (node c 0 ∷ node y i ∷ node z i ∷ []) (node x j)
  in-choice c y z x i j (Some true) m = later (node c 0) (node y i ∷ node z i ∷ []) (node x j) (in-two y z x i j (inl m.0) m.1)
  in-choice c y z x i j (Some false) m = later (node c 0) (node y i ∷ node z i ∷ []) (node x j) (in-two y z x i j (inr m.0) m.1)
  in-choice c y z x i j None (inl m) = subst (Contains (node c 0 ∷ node y i ∷ node z i ∷ [])) (sym (ap₂ node m.0 m.1)) (here (node c 0) (node y i ∷ node z i ∷ []))
  in-choice c y z x i j None (inr m) = later (node c 0) (node y i ∷ node z i ∷ []) (node x j) (in-two y z x i j m.0 m.1)

  in-feeds : (c : Cell) → cell_at g id ≡ c → (i : ℕ) (x : CellId) (j : ℕ) → IsMadeOf g [] c i x j → j < W x → Contains (feeds_of g c i) (node x j)
  in-feeds (Var sig) e i x j m l = absurd m
  in-feeds (Const w value) e i x j m l = absurd m
  in-feeds (Not a) e i x j m l = in-one (node a i) (node x j) (ap₂ node m.0 m.1)
  in-feeds (And a d) e i x j m l = in-two a d x i j m.0 m.1
  in-feeds (Or a d) e i x j m l = in-two a d x i j m.0 m.1
  in-feeds (Xor a d) e i x j m l = in-two a d x i j m.0 m.1
  in-feeds (Add a d) e i x j m l = in-pairs a d x j (i + 1) (omega (arith, m.1)) m.0
  in-feeds (Sub a d) e i x j m l = in-pairs a d x j (i + 1) (omega (arith, m.1)) m.0
  in-feeds (Eq a d) e i x j m l = in-pairs a d x j (W a) m.1 m.0
  in-feeds (Lt a d) e i x j m l = in-pairs a d x j (W a) m.1 m.0
  in-feeds (Shl a by) e i x j m l = in-up a by x i j (constant (cell_at g by)) (known_number (known [] (tree_of g by)) (W by))
      (constant-known by (let s = (is-cell (Shl a by) e).1 in omega arith)) m (made-operand g [] (Shl a by) i x j m) l
  in-feeds (Shr a by) e i x j m l = in-down a by x i j (constant (cell_at g by)) (known_number (known [] (tree_of g by)) (W by))
      (constant-known by (let s = (is-cell (Shr a by) e).1 in omega arith)) m (made-operand g [] (Shr a by) i x j m) l
  in-feeds (Mux c y z) e i x j m l = in-choice c y z x i j (known [] (tree_of g c) 0) m
  in-feeds (Concat high low) e i x j (inl m) l = in-passed (cond (nat_lt i (W low)) (Bit (node low i)) (Bit (node high (i - W low)))) [] (node x j)
      (ap (λ v. cond v (Bit (node low i)) (Bit (node high (i - W low)))) (lt-ltb i (W low) m.1) ∙ ap Bit (ap₂ node (sym m.0) (sym m.2)))
  in-feeds (Concat high low) e i x j (inr m) l = in-passed (cond (nat_lt i (W low)) (Bit (node low i)) (Bit (node high (i - W low)))) [] (node x j)
      (ap (λ v. cond v (Bit (node low i)) (Bit (node high (i - W low)))) (not-below i (W low) (omega (arith, m.1)))
      ∙ ap Bit (ap₂ node (sym m.0) (let f : i - W low ≡ j = omega (arith, m.1) in f)))
  in-feeds (Slice a at w) e i x j m l = in-passed (bit_or_zero g a (at + i)) [] (node x j) (passed-part a x (at + i) j m.0 (sym m.1) l)
  in-feeds (Extend a w) e i x j m l = in-passed (bit_or_zero g a i) [] (node x j) (passed-part a x i j m.0 (sym m.2) l)
  in-feeds (Reduce k a) e i x j m l = subst (λ y. Contains (all_bits g a) (node y j)) (sym m.0) (in-bits a j (W a) m.1)

  pub made-feeds : (i : ℕ) (x : CellId) (j : ℕ) → IsMadeOf g [] (cell_at g id) i x j → j < W x → Contains (feeds_of g (cell_at g id) i) (node x j)
  made-feeds i x j m l = in-feeds (cell_at g id) refl i x j m l

  -- ---- each feed is a bit of an operand

  abbrev IsFeed : Cell → Node → Type 0
  IsFeed c m = IsOperand c m.cell × (m.at < W m.cell)

  bit-of : (a : CellId) (k : ℕ) (m : Node) → node a k ≡ m → k < W a → (m.cell ≡ a) × (m.at < W m.cell)
  bit-of a k m e l = (sym (ap (λ (n : Node). n.cell) e), subst (λ (n : Node). n.at < W n.cell) e l)

  bits-of : (a : CellId) (m : Node) → Contains (all_bits g a) m → (m.cell ≡ a) × (m.at < W m.cell)
  bits-of a m h = let p = from-bits a 0 (W a) m h in (p.0, subst (λ x. m.at < W x) (sym p.0) (omega (arith, p.1)))

  two-of : (a d : CellId) (i : ℕ) (m : Node) → i < W a → W a ≡ W d → Contains (node a i ∷ node d i ∷ []) m → ((m.cell ≡ a) ⊎ (m.cell ≡ d)) × (m.at < W m.cell)
  two-of a d i m l e h = elim (parts (node a i) (node d i ∷ []) m h) [
    | inl f ↦ (let p = bit-of a i m f l in (inl p.0, p.1))
    | inr k ↦ (let p = bit-of d i m (from-one (node d i) m k) (omega arith) in (inr p.0, p.1))
  ]

  pairs-of : (a d : CellId) (n : ℕ) (m : Node) → n ≤ W a → W a ≡ W d → Contains (pairs_from a d 0 n) m → ((m.cell ≡ a) ⊎ (m.cell ≡ d)) × (m.at < W m.cell)
  pairs-of a d n m l e h = let p = from-pairs a d 0 n m h in (
    p.0,
    elim p.0 [
      | inl f ↦ subst (λ x. m.at < W x) (sym f) (omega (arith, p.1))
      | inr f ↦ subst (λ x. m.at < W x) (sym f) (omega (arith, p.1))
    ],
  )

  part-of : (a : CellId) (k : ℕ) (m : Node) → Contains (feeds_passed (bit_or_zero g a k) []) m → (m.cell ≡ a) × (m.at < W m.cell)
  part-of a k m h = go (nat_lt k (W a)) refl h
    where
      go : (v : Bool) → nat_lt k (W a) ≡ v → Contains (feeds_passed (cond v (Bit (node a k)) Zero) []) m → (m.cell ≡ a) × (m.at < W m.cell)
      go true t i = bit-of a k m (from-one (node a k) m i) (ltb-true k (W a) t)
      go false t i = absurd (nothing_in m i)

  both-of : (a by : CellId) (m : Node) → Contains (all_bits g a ++ all_bits g by) m → ((m.cell ≡ a) ⊎ (m.cell ≡ by)) × (m.at < W m.cell)
  both-of a by m h = elim (Contains-append_cases (all_bits g a) (all_bits g by) m h) [
    | inl k ↦ (let p = bits-of a m k in (inl p.0, p.1))
    | inr k ↦ (let p = bits-of by m k in (inr p.0, p.1))
  ]

  shifted-part : (a by : CellId) (k : ℕ) (m : Node) → Contains (feeds_passed (bit_or_zero g a k) (all_bits g a ++ all_bits g by)) m → ((m.cell ≡ a) ⊎ (m.cell ≡ by)) × (m.at < W m.cell)
  shifted-part a by k m h = go (nat_lt k (W a)) refl h
    where
      go : (v : Bool) → nat_lt k (W a) ≡ v → Contains (feeds_passed (cond v (Bit (node a k)) Zero) (all_bits g a ++ all_bits g by)) m → ((m.cell ≡ a) ⊎ (m.cell ≡ by)) × (m.at < W m.cell)
      go true t i = let p = bit-of a k m (from-one (node a k) m i) (ltb-true k (W a) t) in (inl p.0, p.1)
      go false t i = absurd (nothing_in m i)

  up-of : (a by : CellId) (i : ℕ) (o : Option ℕ) (m : Node) → Contains (feeds_passed (by_constant o (moved_up g a i)) (all_bits g a ++ all_bits g by)) m → ((m.cell ≡ a) ⊎ (m.cell ≡ by)) × (m.at < W m.cell)
  up-of a by i None m h = both-of a by m h
  up-of a by i (Some v) m h = go (nat_lt i v) h
    where
      go : (u : Bool) → Contains (feeds_passed (cond u Zero (bit_or_zero g a (i - v))) (all_bits g a ++ all_bits g by)) m → ((m.cell ≡ a) ⊎ (m.cell ≡ by)) × (m.at < W m.cell)
      go true k = absurd (nothing_in m k)
      go false k = shifted-part a by (i - v) m k

  down-of : (a by : CellId) (i : ℕ) (o : Option ℕ) (m : Node) → Contains (feeds_passed (by_constant o (moved_down g a i)) (all_bits g a ++ all_bits g by)) m → ((m.cell ≡ a) ⊎ (m.cell ≡ by)) × (m.at < W m.cell)
  down-of a by i None m h = both-of a by m h
  down-of a by i (Some v) m h = shifted-part a by (i + v) m h

  from-feeds : (c : Cell) → cell_at g id ≡ c → (i : ℕ) → i < W id → (m : Node) → Contains (feeds_of g c i) m → IsFeed c m
  from-feeds (Var sig) e i l m h = absurd (nothing_in m h)
  from-feeds (Const w value) e i l m h = absurd (nothing_in m h)
  from-feeds (Not a) e i l m h = bit-of a i m (from-one (node a i) m h) (let w = own-width (Not a) e in let v = width-tree_of g a in omega arith)
  from-feeds (And a d) e i l m h = two-of a d i m (let w = own-width (And a d) e in let v = width-tree_of g a in omega arith) (is-cell (And a d) e).2 h
  from-feeds (Or a d) e i l m h = two-of a d i m (let w = own-width (Or a d) e in let v = width-tree_of g a in omega arith) (is-cell (Or a d) e).2 h
  from-feeds (Xor a d) e i l m h = two-of a d i m (let w = own-width (Xor a d) e in let v = width-tree_of g a in omega arith) (is-cell (Xor a d) e).2 h
  from-feeds (Add a d) e i l m h = pairs-of a d (i + 1) m (let w = own-width (Add a d) e in let v = width-tree_of g a in omega arith) (is-cell (Add a d) e).2 h
  from-feeds (Sub a d) e i l m h = pairs-of a d (i + 1) m (let w = own-width (Sub a d) e in let v = width-tree_of g a in omega arith) (is-cell (Sub a d) e).2 h
  from-feeds (Eq a d) e i l m h = pairs-of a d (W a) m (omega arith) (is-cell (Eq a d) e).2 h
  from-feeds (Lt a d) e i l m h = pairs-of a d (W a) m (omega arith) (is-cell (Lt a d) e).2 h
  from-feeds (Shl a by) e i l m h = up-of a by i (constant (cell_at g by)) m h
  from-feeds (Shr a by) e i l m h = down-of a by i (constant (cell_at g by)) m h
  from-feeds (Mux c y z) e i l m h = elim (parts (node c 0) (node y i ∷ node z i ∷ []) m h) [
    | inl f ↦ (let p = bit-of c 0 m f (let s = (is-cell (Mux c y z) e).1 in omega arith) in (inl p.0, p.1))
    | inr k ↦ (let p = two-of y z i m (let w = own-width (Mux c y z) e in let v = width-tree_of g y in omega arith) (is-cell (Mux c y z) e).2.2 k in (inr p.0, p.1))
  ]
  from-feeds (Concat high low) e i l m h = go (nat_lt i (W low)) refl h
    where
      go : (v : Bool) → nat_lt i (W low) ≡ v → Contains (feeds_passed (cond v (Bit (node low i)) (Bit (node high (i - W low)))) []) m → IsFeed (Concat high low) m
      go true t k = let p = bit-of low i m (from-one (node low i) m k) (ltb-true i (W low) t) in (inr p.0, p.1)
      go false t k =
          let n = ltb-false i (W low) t in
          let w = own-width (Concat high low) e in
          let u = width-tree_of g high in
          let v = width-tree_of g low in
          let p = bit-of high (i - W low) m (from-one (node high (i - W low)) m k) (omega arith) in (inl p.0, p.1)
  from-feeds (Slice a at w) e i l m h = part-of a (at + i) m h
  from-feeds (Extend a w) e i l m h = part-of a i m h
  from-feeds (Reduce k a) e i l m h = bits-of a m h

  pub feeds-within : (i : ℕ) → i < W id → (m : Node) → Contains (feeds_of g (cell_at g id) i) m → IsFeed (cell_at g id) m
  feeds-within i l m h = from-feeds (cell_at g id) refl i l m h

  -- ---- they are all bits of two words at most

  few-passed : (p : Passed) (others : List Node) → length others ≤ 128 → length (feeds_passed p others) ≤ 128
  few-passed (Bit m) others l = omega arith
  few-passed Zero others l = omega arith
  few-passed Other others l = l

  few-bits : (a : CellId) → length (all_bits g a) ≤ 64
  few-bits a = let s = small-width g well a in let n = length-bits_from a (W a) 0 in omega arith

  few-both : (a by : CellId) → length (all_bits g a ++ all_bits g by) ≤ 128
  few-both a by = let s = few-bits a in let t = few-bits by in let n = length-append (all_bits g a) (all_bits g by) in omega arith

  few-pairs : (a d : CellId) (n : ℕ) → n ≤ 64 → length (pairs_from a d 0 n) ≤ 128
  few-pairs a d n l = let k = length-pairs_from a d n 0 in omega arith

  few : (c : Cell) (i : ℕ) → i < 64 → length (feeds_of g c i) ≤ 128
  few (Var sig) i l = omega arith
  few (Const w value) i l = omega arith
  few (Not a) i l = omega arith
  few (And a d) i l = omega arith
  few (Or a d) i l = omega arith
  few (Xor a d) i l = omega arith
  few (Add a d) i l = few-pairs a d (i + 1) (omega arith)
  few (Sub a d) i l = few-pairs a d (i + 1) (omega arith)
  few (Eq a d) i l = few-pairs a d (W a) (small-width g well a)
  few (Lt a d) i l = few-pairs a d (W a) (small-width g well a)
  few (Shl a by) i l = few-passed (by_constant (constant (cell_at g by)) (moved_up g a i)) (all_bits g a ++ all_bits g by) (few-both a by)
  few (Shr a by) i l = few-passed (by_constant (constant (cell_at g by)) (moved_down g a i)) (all_bits g a ++ all_bits g by) (few-both a by)
  few (Mux c y z) i l = omega arith
  few (Concat high low) i l = few-passed (cond (nat_lt i (W low)) (Bit (node low i)) (Bit (node high (i - W low)))) [] (omega arith)
  few (Slice a at w) i l = few-passed (bit_or_zero g a (at + i)) [] (omega arith)
  few (Extend a w) i l = few-passed (bit_or_zero g a i) [] (omega arith)
  few (Reduce k a) i l = let n = few-bits a in omega arith

  pub few-feeds : (i : ℕ) → i < W id → length (feeds_of g (cell_at g id) i) ≤ 128
  few-feeds i l = few (cell_at g id) i (let s = small-width g well id in omega arith)
