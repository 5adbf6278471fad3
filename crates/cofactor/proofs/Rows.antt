-- What is known of a cell's bits, by what is known of those of its operands: one row of the rules for each kind of cell.
use Rattle.std.proofs.Common.{◌≡◌, ◌∙◌, sym, ap, ap₂, subst, refl, arith, ℕ, zero, suc, ◌+◌, ◌-◌, ◌^◌, ◌<◌, ◌≤◌, min, Bool, false, cond, not, nat_lt, inl, inr, length, Option, Some, None, option_map}
use Rattle.cell_graph.specs.declared.cell.Cell.{Cell}
use Rattle.cell_graph.specs.declared.cell.Cell.TheVariants.{Var, Const, Not, And, Or, Xor, Add, Sub, Eq, Lt, Shl, Shr, Mux, Concat, Slice, Extend, Reduce}
use Rattle.cell_graph.specs.declared.cell.CellId.{CellId}
use Rattle.cell_graph.specs.declared.cell.ReduceKind.{ReduceKind}
use Rattle.cell_graph.specs.declared.cell.ReduceKind.TheVariants as kind
use Rattle.cell_graph.specs.Cells.{Cells, cell_at, cell_width}
use Rattle.cell_graph.specs.Below.{IsOperand}
use Rattle.cell_graph.specs.Reading.{Cube}
use Rattle.cell_graph.specs.Tree.{Tree, width, bit_at, number}
use Rattle.cell_graph.specs.Unfolded.{unfolded, reduced, trees, tree_of, IsCellOf, IsWellFormed}
use Rattle.cell_graph.specs.Cofactor.{fixed, known, known_and, known_or, known_xor, agreed, chosen, known_number, on_number, on_numbers, known_all}
use Rattle.cell_graph.proofs.Trees.{width-tree_of, tree_of-cell}
use Rattle.cell_graph.proofs.CellValues.{width-64}
use Rattle.cell_graph.proofs.Cones.{cell-there}
use Rattle.cofactor.specs.declared.masks.Masks.{Masks}
use Rattle.cofactor.specs.Masks.{masks_of, known_reduced}
use Rattle.cofactor.specs.Cubes.{bit}
use Rattle.cofactor.specs.Shown.{Shown, masks_at, ShowsMasks}
use Rattle.cofactor.proofs.Shown.{masks-same}

nothing-shown : (w : ℕ) → ◌≡◌ {A = Masks} (record { known = 0; value = 0 }) (masks_of (λ i. None) w)
nothing-shown w = ap₂ (λ (p q : ℕ). let m : Masks = record { known = p; value = q } in m) (none w) (none w)
  where
    none : (w : ℕ) → 0 ≡ number (λ i. false) w
    none zero = refl
    none (suc w) = none w ∙ (let e : number (λ i. false) w ≡ number (λ i. false) w + 0 = omega arith in e)

known-reduced : (cube : Cube) (k : ReduceKind) (t : Tree) → masks_of (known_reduced k (known cube t) (width t)) 1 ≡ masks_of (known cube (reduced k t)) (width (reduced k t))
known-reduced cube kind.And t = refl
known-reduced cube kind.Or t = refl
known-reduced cube kind.Xor t = refl

module _ (g : Cells) (well : IsWellFormed g) (cube : Cube) (t : Shown) (id : CellId) (lt : id.0 < length g.cells)
    (shown : (a : CellId) → IsOperand (cell_at g id) a → ShowsMasks g cube t a) where
  abbrev K : CellId → ℕ → Option Bool
  K a = known cube (tree_of g a)

  abbrev W : CellId → ℕ
  W a = width (tree_of g a)

  abbrev T : Cell → Tree
  T c = unfolded g.signals (trees g) c

  tree : (c : Cell) → cell_at g id ≡ c → tree_of g id ≡ unfolded g.signals (trees g) c
  tree c e = tree_of-cell g well id c (cell-there g id lt ∙ ap Some e)

  is-cell : (c : Cell) → cell_at g id ≡ c → IsCellOf g id.0 c
  is-cell c e = well.cells id.0 c (cell-there g id lt ∙ ap Some e)

  finish : (c : Cell) → cell_at g id ≡ c → (r : Masks) → r ≡ masks_of (known cube (T c)) (width (T c)) → r ≡ masks_of (known cube (tree_of g id)) (cell_width g id)
  finish c e r h = h ∙ ap (λ u. masks_of (known cube u) (width u)) (sym (tree c e)) ∙ ap (masks_of (known cube (tree_of g id))) (sym (width-tree_of g id))

  -- the masks of an operand, and of the second of two operands of one width
  operand : (c : Cell) → cell_at g id ≡ c → (a : CellId) → IsOperand c a → masks_at t a ≡ masks_of (K a) (W a)
  operand c e a op = shown a (subst (λ d. IsOperand d a) (sym e) op) ∙ ap (masks_of (K a)) (width-tree_of g a)

  alike : (a b : CellId) → cell_width g a ≡ cell_width g b → masks_at t b ≡ masks_of (K b) (W b) → masks_at t b ≡ masks_of (K b) (W a)
  alike a b e h = h ∙ ap (masks_of (K b)) (sym (width-tree_of g b) ∙ sym e ∙ width-tree_of g a)

  wide : (c : Cell) → cell_at g id ≡ c → (w : ℕ) → w ≡ cell_width g id → w ≡ width (T c)
  wide c e w is = is ∙ width-tree_of g id ∙ ap width (tree c e)

  pub own-64 : (w : ℕ) → w ≡ cell_width g id → w ≤ 64
  own-64 w is = let l = width-64 g well id in let m = width-tree_of g id in omega arith

  part-64 : (a : CellId) (w : ℕ) → w ≡ W a → w ≤ 64
  part-64 a w is = let l = width-64 g well a in omega arith

  pub var-row : (sig : ℕ) → cell_at g id ≡ Var sig → (w : ℕ) → w ≡ cell_width g id → (r : Masks) → r ≡ masks_of (λ i. fixed cube (bit sig (0 + i))) w
      → r ≡ masks_of (known cube (tree_of g id)) (cell_width g id)
  var-row sig e w is r h = finish (Var sig) e r (h ∙ ap (masks_of (λ i. fixed cube (bit sig (0 + i)))) (wide (Var sig) e w is)
      ∙ masks-same (λ i. fixed cube (bit sig (0 + i))) (λ i. fixed cube (bit sig i)) (width (T (Var sig))) (λ i l. ap (λ j. fixed cube (bit sig j)) (let z : 0 + i ≡ i = omega arith in z)))

  pub const-row : (v value : ℕ) → cell_at g id ≡ Const v value → (w : ℕ) → w ≡ cell_width g id → (r : Masks) → (w ≤ 64 → r ≡ masks_of (λ i. Some (bit_at value i)) w)
      → r ≡ masks_of (known cube (tree_of g id)) (cell_width g id)
  const-row v value e w is r f = finish (Const v value) e r (f (own-64 w is) ∙ ap (masks_of (λ i. Some (bit_at value i))) (wide (Const v value) e w is))

  pub not-row : (a : CellId) → cell_at g id ≡ Not a → (r : Masks) → ((k : ℕ → Option Bool) (w : ℕ) → w ≤ 64 → masks_at t a ≡ masks_of k w → r ≡ masks_of (λ i. option_map not (k i)) w)
      → r ≡ masks_of (known cube (tree_of g id)) (cell_width g id)
  not-row a e r f = finish (Not a) e r (f (K a) (W a) (width-64 g well a) (operand (Not a) e a refl))

  pub and-row : (a b : CellId) → cell_at g id ≡ And a b → (r : Masks)
      → ((k l : ℕ → Option Bool) (w : ℕ) → w ≤ 64 → masks_at t a ≡ masks_of k w → masks_at t b ≡ masks_of l w → r ≡ masks_of (λ i. known_and (k i) (l i)) w)
      → r ≡ masks_of (known cube (tree_of g id)) (cell_width g id)
  and-row a b e r f = let is = is-cell (And a b) e in
      finish (And a b) e r (f (K a) (K b) (W a) (width-64 g well a) (operand (And a b) e a (inl refl)) (alike a b is.2 (operand (And a b) e b (inr refl))))

  pub or-row : (a b : CellId) → cell_at g id ≡ Or a b → (r : Masks)
      → ((k l : ℕ → Option Bool) (w : ℕ) → w ≤ 64 → masks_at t a ≡ masks_of k w → masks_at t b ≡ masks_of l w → r ≡ masks_of (λ i. known_or (k i) (l i)) w)
      → r ≡ masks_of (known cube (tree_of g id)) (cell_width g id)
  or-row a b e r f = let is = is-cell (Or a b) e in
      finish (Or a b) e r (f (K a) (K b) (W a) (width-64 g well a) (operand (Or a b) e a (inl refl)) (alike a b is.2 (operand (Or a b) e b (inr refl))))

  pub xor-row : (a b : CellId) → cell_at g id ≡ Xor a b → (r : Masks)
      → ((k l : ℕ → Option Bool) (w : ℕ) → w ≤ 64 → masks_at t a ≡ masks_of k w → masks_at t b ≡ masks_of l w → r ≡ masks_of (λ i. known_xor (k i) (l i)) w)
      → r ≡ masks_of (known cube (tree_of g id)) (cell_width g id)
  xor-row a b e r f = let is = is-cell (Xor a b) e in
      finish (Xor a b) e r (f (K a) (K b) (W a) (width-64 g well a) (operand (Xor a b) e a (inl refl)) (alike a b is.2 (operand (Xor a b) e b (inr refl))))

  pub add-row : (a b : CellId) → cell_at g id ≡ Add a b → (w : ℕ) → w ≡ cell_width g id → (r : Masks)
      → ((k l : ℕ → Option Bool) → w ≤ 64 → masks_at t a ≡ masks_of k w → masks_at t b ≡ masks_of l w
      → r ≡ masks_of (λ i. on_numbers (known_number k (suc i)) (known_number l (suc i)) (λ m n. bit_at (m + n) i)) w)
      → r ≡ masks_of (known cube (tree_of g id)) (cell_width g id)
  add-row a b e w is r f = let cell = is-cell (Add a b) e in let at = wide (Add a b) e w is in
      finish (Add a b) e r (f (K a) (K b) (own-64 w is) (operand (Add a b) e a (inl refl) ∙ ap (masks_of (K a)) (sym at)) (alike a b cell.2 (operand (Add a b) e b (inr refl)) ∙ ap (masks_of (K b)) (sym at))
      ∙ ap (masks_of (known cube (T (Add a b)))) at)

  pub sub-row : (a b : CellId) → cell_at g id ≡ Sub a b → (w : ℕ) → w ≡ cell_width g id → (r : Masks)
      → ((k l : ℕ → Option Bool) → w ≤ 64 → masks_at t a ≡ masks_of k w → masks_at t b ≡ masks_of l w
      → r ≡ masks_of (λ i. on_numbers (known_number k (suc i)) (known_number l (suc i)) (λ m n. bit_at (2 ^ suc i + m - n) i)) w)
      → r ≡ masks_of (known cube (tree_of g id)) (cell_width g id)
  sub-row a b e w is r f = let cell = is-cell (Sub a b) e in let at = wide (Sub a b) e w is in
      finish (Sub a b) e r (f (K a) (K b) (own-64 w is) (operand (Sub a b) e a (inl refl) ∙ ap (masks_of (K a)) (sym at)) (alike a b cell.2 (operand (Sub a b) e b (inr refl)) ∙ ap (masks_of (K b)) (sym at))
      ∙ ap (masks_of (known cube (T (Sub a b)))) at)

  pub eq-row : (a b : CellId) → cell_at g id ≡ Eq a b → (w : ℕ) → w ≡ cell_width g a → (r : Masks)
      → ((k l : ℕ → Option Bool) → w ≤ 64 → masks_at t a ≡ masks_of k w → masks_at t b ≡ masks_of l w → r ≡ masks_of (λ i. known_all (λ j. option_map not (known_xor (k j) (l j))) w) 1)
      → r ≡ masks_of (known cube (tree_of g id)) (cell_width g id)
  eq-row a b e w is r f = let cell = is-cell (Eq a b) e in let at = is ∙ width-tree_of g a in
      finish (Eq a b) e r (f (K a) (K b) (part-64 a w at) (operand (Eq a b) e a (inl refl) ∙ ap (masks_of (K a)) (sym at)) (alike a b cell.2 (operand (Eq a b) e b (inr refl)) ∙ ap (masks_of (K b)) (sym at))
      ∙ ap (λ v. masks_of (λ i. known_all (λ j. option_map not (known_xor (K a j) (K b j))) v) 1) at)

  pub lt-row : (a b : CellId) → cell_at g id ≡ Lt a b → (w : ℕ) → w ≡ cell_width g a → (r : Masks)
      → ((k l : ℕ → Option Bool) → w ≤ 64 → masks_at t a ≡ masks_of k w → masks_at t b ≡ masks_of l w → r ≡ masks_of (λ i. on_numbers (known_number k w) (known_number l w) nat_lt) 1)
      → r ≡ masks_of (known cube (tree_of g id)) (cell_width g id)
  lt-row a b e w is r f = let cell = is-cell (Lt a b) e in let at = is ∙ width-tree_of g a in
      finish (Lt a b) e r (f (K a) (K b) (part-64 a w at) (operand (Lt a b) e a (inl refl) ∙ ap (masks_of (K a)) (sym at)) (alike a b cell.2 (operand (Lt a b) e b (inr refl)) ∙ ap (masks_of (K b)) (sym at))
      ∙ ap (λ v. masks_of (λ i. on_numbers (known_number (K a) v) (known_number (K b) v) nat_lt) 1) at)

  -- the amount of a shift
  amount-is : (c : Cell) → cell_at g id ≡ c → (by : CellId) → IsOperand c by → (o : Option ℕ)
      → ((k : ℕ → Option Bool) → cell_width g by ≤ 64 → masks_at t by ≡ masks_of k (cell_width g by) → o ≡ known_number k (cell_width g by)) → o ≡ known_number (K by) (W by)
  amount-is c e by op o f = let at = width-tree_of g by in
      f (K by) (part-64 by (cell_width g by) at) (operand c e by op ∙ ap (masks_of (K by)) (sym at)) ∙ ap (known_number (K by)) at

  pub shl-row : (a by : CellId) → cell_at g id ≡ Shl a by → (w : ℕ) → w ≡ cell_width g id → (r : Masks) (o : Option ℕ) (n : ℕ) → o ≡ Some n
      → ((k : ℕ → Option Bool) → cell_width g by ≤ 64 → masks_at t by ≡ masks_of k (cell_width g by) → o ≡ known_number k (cell_width g by))
      → ((k : ℕ → Option Bool) → w ≤ 64 → masks_at t a ≡ masks_of k w → r ≡ masks_of (λ i. cond (nat_lt i n) (Some false) (cond (nat_lt (i - n) w) (k (i - n)) (Some false))) w)
      → r ≡ masks_of (known cube (tree_of g id)) (cell_width g id)
  shl-row a by e w is r o n some amount f = let at = wide (Shl a by) e w is in
      finish (Shl a by) e r (f (K a) (own-64 w is) (operand (Shl a by) e a (inl refl) ∙ ap (masks_of (K a)) (sym at))
      ∙ ap (λ v. masks_of (λ i. cond (nat_lt i n) (Some false) (cond (nat_lt (i - n) v) (K a (i - n)) (Some false))) v) at
      ∙ ap (λ p. masks_of (λ i. on_number p None (λ m. cond (nat_lt i m) (Some false) (cond (nat_lt (i - m) (W a)) (K a (i - m)) (Some false)))) (W a)) (sym some ∙ amount-is (Shl a by) e by (inr refl) o amount))

  pub shr-row : (a by : CellId) → cell_at g id ≡ Shr a by → (w : ℕ) → w ≡ cell_width g id → (r : Masks) (o : Option ℕ) (n : ℕ) → o ≡ Some n
      → ((k : ℕ → Option Bool) → cell_width g by ≤ 64 → masks_at t by ≡ masks_of k (cell_width g by) → o ≡ known_number k (cell_width g by))
      → ((k : ℕ → Option Bool) → w ≤ 64 → masks_at t a ≡ masks_of k w → r ≡ masks_of (λ i. cond (nat_lt (i + n) w) (k (i + n)) (Some false)) w)
      → r ≡ masks_of (known cube (tree_of g id)) (cell_width g id)
  shr-row a by e w is r o n some amount f = let at = wide (Shr a by) e w is in
      finish (Shr a by) e r (f (K a) (own-64 w is) (operand (Shr a by) e a (inl refl) ∙ ap (masks_of (K a)) (sym at))
      ∙ ap (λ v. masks_of (λ i. cond (nat_lt (i + n) v) (K a (i + n)) (Some false)) v) at
      ∙ ap (λ p. masks_of (λ i. on_number p None (λ m. cond (nat_lt (i + m) (W a)) (K a (i + m)) (Some false))) (W a)) (sym some ∙ amount-is (Shr a by) e by (inr refl) o amount))

  pub shl-none : (a by : CellId) → cell_at g id ≡ Shl a by → (o : Option ℕ) → o ≡ None
      → ((k : ℕ → Option Bool) → cell_width g by ≤ 64 → masks_at t by ≡ masks_of k (cell_width g by) → o ≡ known_number k (cell_width g by))
      → ◌≡◌ {A = Masks} (record { known = 0; value = 0 }) (masks_of (known cube (tree_of g id)) (cell_width g id))
  shl-none a by e o none amount = finish (Shl a by) e (record { known = 0; value = 0 }) (nothing-shown (W a)
      ∙ ap (λ p. masks_of (λ i. on_number p None (λ m. cond (nat_lt i m) (Some false) (cond (nat_lt (i - m) (W a)) (K a (i - m)) (Some false)))) (W a)) (sym none ∙ amount-is (Shl a by) e by (inr refl) o amount))

  pub shr-none : (a by : CellId) → cell_at g id ≡ Shr a by → (o : Option ℕ) → o ≡ None
      → ((k : ℕ → Option Bool) → cell_width g by ≤ 64 → masks_at t by ≡ masks_of k (cell_width g by) → o ≡ known_number k (cell_width g by))
      → ◌≡◌ {A = Masks} (record { known = 0; value = 0 }) (masks_of (known cube (tree_of g id)) (cell_width g id))
  shr-none a by e o none amount = finish (Shr a by) e (record { known = 0; value = 0 }) (nothing-shown (W a)
      ∙ ap (λ p. masks_of (λ i. on_number p None (λ m. cond (nat_lt (i + m) (W a)) (K a (i + m)) (Some false))) (W a)) (sym none ∙ amount-is (Shr a by) e by (inr refl) o amount))

  pub mux-row : (c x y : CellId) → cell_at g id ≡ Mux c x y → (r : Masks) (o : Option Bool)
      → ((k : ℕ → Option Bool) (w : ℕ) → 0 < w → masks_at t c ≡ masks_of k w → o ≡ k 0)
      → ((k l : ℕ → Option Bool) (w : ℕ) → w ≤ 64 → masks_at t x ≡ masks_of k w → masks_at t y ≡ masks_of l w → r ≡ masks_of (λ i. chosen o (k i) (l i) (agreed (k i) (l i))) w)
      → r ≡ masks_of (known cube (tree_of g id)) (cell_width g id)
  mux-row c x y e r o first f = let cell = is-cell (Mux c x y) e in
      finish (Mux c x y) e r (f (K x) (K y) (W x) (width-64 g well x) (operand (Mux c x y) e x (inr (inl refl))) (alike x y cell.2.2 (operand (Mux c x y) e y (inr (inr refl))))
      ∙ ap (λ p. masks_of (λ i. chosen p (K x i) (K y i) (agreed (K x i) (K y i))) (W x)) (first (K c) (W c) (let q = width-tree_of g c in let one = cell.1 in omega arith) (operand (Mux c x y) e c (inl refl))))

  pub concat-row : (high low : CellId) → cell_at g id ≡ Concat high low → (v : ℕ) → v ≡ cell_width g low → (r : Masks)
      → ((k l : ℕ → Option Bool) (w : ℕ) → w + v ≤ 64 → masks_at t high ≡ masks_of k w → masks_at t low ≡ masks_of l v → r ≡ masks_of (λ i. cond (nat_lt i v) (l i) (k (i - v))) (w + v))
      → r ≡ masks_of (known cube (tree_of g id)) (cell_width g id)
  concat-row high low e v is r f =
      let cell = is-cell (Concat high low) e in let at = is ∙ width-tree_of g low in let p = width-tree_of g high in let q = width-tree_of g low in let fits = cell.2 in
      finish (Concat high low) e r (f (K high) (K low) (W high) (omega arith) (operand (Concat high low) e high (inl refl)) (operand (Concat high low) e low (inr refl) ∙ ap (masks_of (K low)) (sym at))
      ∙ ap (λ u. masks_of (λ i. cond (nat_lt i u) (K low i) (K high (i - u))) (W high + u)) at
      ∙ ap (masks_of (known cube (T (Concat high low)))) (let m : W high + W low ≡ min (W high + W low) 255 = omega arith in m))

  pub slice-row : (a : CellId) (at v : ℕ) → cell_at g id ≡ Slice a at v → (w : ℕ) → w ≡ cell_width g id → (r : Masks)
      → ((k : ℕ → Option Bool) (u : ℕ) → u ≤ 64 → at + w ≤ u → masks_at t a ≡ masks_of k u → r ≡ masks_of (λ i. k (at + i)) w)
      → r ≡ masks_of (known cube (tree_of g id)) (cell_width g id)
  slice-row a at v e w is r f =
      let cell = is-cell (Slice a at v) e in let own = wide (Slice a at v) e w is in let p = width-tree_of g a in let fits = cell.2 in
      finish (Slice a at v) e r (f (K a) (W a) (width-64 g well a) (omega arith) (operand (Slice a at v) e a refl) ∙ ap (masks_of (λ i. K a (at + i))) own)

  pub extend-row : (a : CellId) (v : ℕ) → cell_at g id ≡ Extend a v → (w : ℕ) → w ≡ cell_width g id → (u : ℕ) → u ≡ cell_width g a → (r : Masks)
      → ((k : ℕ → Option Bool) → u ≤ w → w ≤ 64 → masks_at t a ≡ masks_of k u → r ≡ masks_of (λ i. cond (nat_lt i u) (k i) (Some false)) w)
      → r ≡ masks_of (known cube (tree_of g id)) (cell_width g id)
  extend-row a v e w is u at r f =
      let cell = is-cell (Extend a v) e in let own = wide (Extend a v) e w is in let part = at ∙ width-tree_of g a in let fits = cell.1 in
      finish (Extend a v) e r (f (K a) (omega arith) (own-64 w is) (operand (Extend a v) e a refl ∙ ap (masks_of (K a)) (sym part))
      ∙ ap₂ (λ x y. masks_of (λ i. cond (nat_lt i x) (K a i) (Some false)) y) part own)

  pub reduce-row : (k : ReduceKind) (a : CellId) → cell_at g id ≡ Reduce k a → (u : ℕ) → u ≡ cell_width g a → (r : Masks)
      → ((l : ℕ → Option Bool) → u ≤ 64 → masks_at t a ≡ masks_of l u → r ≡ masks_of (known_reduced k l u) 1)
      → r ≡ masks_of (known cube (tree_of g id)) (cell_width g id)
  reduce-row k a e u at r f = let part = at ∙ width-tree_of g a in
      finish (Reduce k a) e r (f (K a) (part-64 a u part) (operand (Reduce k a) e a refl ∙ ap (masks_of (K a)) (sym part)) ∙ ap (λ x. masks_of (known_reduced k (K a) x) 1) part ∙ known-reduced cube k (tree_of g a))
