-- In a graph that keeps equal cells once, cells with equal trees are equal.
use Rattle.std.proofs.Common.{◌≡◌, ◌∙◌, sym, ap, ap₂, refl, arith, ℕ, zero, suc, ◌<◌, ◌≤◌, length, Some, slice_get}
use Rattle.std.proofs.lemmas.Option.{slice_get-get_or, unwrap_or-slice_get}
use Rattle.cell_graph.specs.declared.cell.Cell.{Cell}
use Rattle.cell_graph.specs.declared.cell.Cell.TheVariants.{Var, Const, Not, And, Or, Xor, Add, Sub, Eq, Lt, Shl, Shr, Mux, Concat, Slice, Extend, Reduce}
use Rattle.cell_graph.specs.declared.cell.CellId.{CellId}
use Rattle.cell_graph.specs.declared.cell.Node.{Node}
use Rattle.cell_graph.specs.declared.cell.ReduceKind.TheVariants as kind
use Rattle.cell_graph.specs.Tree as tree
use Rattle.cell_graph.specs.Tree.{Tree}
use Rattle.cell_graph.specs.Cells.{Cells, cell_at}
use Rattle.cell_graph.specs.Unfolded.{unfolded, trees, tree_of, IsCellOf, IsWellFormed, IsNodeOf, bit_of}
use Rattle.cell_graph.proofs.Trees.{tree_of-cell}
use Rattle.cofactor.proofs.Places.{same-cell}
use Rattle.gray_pointer.specs.Words.{IsPlain}

module _ (g : Cells) where
  -- operands before place n are told by their trees
  abbrev Told : ℕ → Type 0
  Told n = (x y : CellId) → x.0 < n → y.0 < length g.cells → tree_of g x ≡ tree_of g y → x ≡ y

  cells_same : (n m : ℕ) → m ≤ length g.cells → Told n → (c d : Cell) → IsCellOf g n c → IsCellOf g m d → unfolded g.signals (trees g) c ≡ unfolded g.signals (trees g) d → c ≡ d
  cells_same n m l told (Var s) (Var t) h k e = let f : s ≡ t = cc in ap (λ x. Var x) f
  cells_same n m l told (Const w v) (Const x u) h k e = let f : w ≡ x = cc in let i : v ≡ u = cc in ap₂ (λ p q. Const p q) f i
  cells_same n m l told (Not a) (Not b) h k e = let f : tree_of g a ≡ tree_of g b = cc in ap (λ x. Not x) (told a b h (omega arith) f)
  cells_same n m l told (And a b) (And c d) h k e = let f : tree_of g a ≡ tree_of g c = cc in let i : tree_of g b ≡ tree_of g d = cc in let p = k.0 in let q = k.1 in ap₂ (λ x y. And x y) (told a c h.0 (omega arith) f) (told b d h.1 (omega arith) i)
  cells_same n m l told (Or a b) (Or c d) h k e = let f : tree_of g a ≡ tree_of g c = cc in let i : tree_of g b ≡ tree_of g d = cc in let p = k.0 in let q = k.1 in ap₂ (λ x y. Or x y) (told a c h.0 (omega arith) f) (told b d h.1 (omega arith) i)
  cells_same n m l told (Xor a b) (Xor c d) h k e = let f : tree_of g a ≡ tree_of g c = cc in let i : tree_of g b ≡ tree_of g d = cc in let p = k.0 in let q = k.1 in ap₂ (λ x y. Xor x y) (told a c h.0 (omega arith) f) (told b d h.1 (omega arith) i)
  cells_same n m l told (Add a b) (Add c d) h k e = let f : tree_of g a ≡ tree_of g c = cc in let i : tree_of g b ≡ tree_of g d = cc in let p = k.0 in let q = k.1 in ap₂ (λ x y. Add x y) (told a c h.0 (omega arith) f) (told b d h.1 (omega arith) i)
  cells_same n m l told (Sub a b) (Sub c d) h k e = let f : tree_of g a ≡ tree_of g c = cc in let i : tree_of g b ≡ tree_of g d = cc in let p = k.0 in let q = k.1 in ap₂ (λ x y. Sub x y) (told a c h.0 (omega arith) f) (told b d h.1 (omega arith) i)
  cells_same n m l told (Eq a b) (Eq c d) h k e = let f : tree_of g a ≡ tree_of g c = cc in let i : tree_of g b ≡ tree_of g d = cc in let p = k.0 in let q = k.1 in ap₂ (λ x y. Eq x y) (told a c h.0 (omega arith) f) (told b d h.1 (omega arith) i)
  cells_same n m l told (Lt a b) (Lt c d) h k e = let f : tree_of g a ≡ tree_of g c = cc in let i : tree_of g b ≡ tree_of g d = cc in let p = k.0 in let q = k.1 in ap₂ (λ x y. Lt x y) (told a c h.0 (omega arith) f) (told b d h.1 (omega arith) i)
  cells_same n m l told (Shl a b) (Shl c d) h k e = let f : tree_of g a ≡ tree_of g c = cc in let i : tree_of g b ≡ tree_of g d = cc in let p = k.0 in let q = k.1 in ap₂ (λ x y. Shl x y) (told a c h.0 (omega arith) f) (told b d h.1 (omega arith) i)
  cells_same n m l told (Shr a b) (Shr c d) h k e = let f : tree_of g a ≡ tree_of g c = cc in let i : tree_of g b ≡ tree_of g d = cc in let p = k.0 in let q = k.1 in ap₂ (λ x y. Shr x y) (told a c h.0 (omega arith) f) (told b d h.1 (omega arith) i)
  cells_same n m l told (Mux s a b) (Mux t c d) h k e =
      let j : tree_of g s ≡ tree_of g t = cc in let f : tree_of g a ≡ tree_of g c = cc in let i : tree_of g b ≡ tree_of g d = cc in
      let o = k.0 in let p = k.2.0 in let q = k.2.1 in
      ap₂ (λ x y. Mux x y b) (told s t h.0 (omega arith) j) (told a c h.2.0 (omega arith) f) ∙ ap (λ y. Mux t c y) (told b d h.2.1 (omega arith) i)
  cells_same n m l told (Concat a b) (Concat c d) h k e = let f : tree_of g a ≡ tree_of g c = cc in let i : tree_of g b ≡ tree_of g d = cc in let p = k.0 in let q = k.1 in ap₂ (λ x y. Concat x y) (told a c h.0 (omega arith) f) (told b d h.1 (omega arith) i)
  cells_same n m l told (Slice a i w) (Slice b j v) h k e = let f : tree_of g a ≡ tree_of g b = cc in let p : i ≡ j = cc in let q : w ≡ v = cc in let o = k.0 in ap₂ (λ x y. Slice x y w) (told a b h.0 (omega arith) f) p ∙ ap (λ y. Slice b j y) q
  cells_same n m l told (Extend a w) (Extend b v) h k e = let f : tree_of g a ≡ tree_of g b = cc in let q : w ≡ v = cc in let o = k.0 in ap₂ (λ x y. Extend x y) (told a b h.0 (omega arith) f) q
  cells_same n m l told (Reduce kind.And a) (Reduce kind.And b) h k e = let f : tree_of g a ≡ tree_of g b = cc in ap (λ x. Reduce kind.And x) (told a b h (omega arith) f)
  cells_same n m l told (Reduce kind.Or a) (Reduce kind.Or b) h k e = let f : tree_of g a ≡ tree_of g b = cc in ap (λ x. Reduce kind.Or x) (told a b h (omega arith) f)
  cells_same n m l told (Reduce kind.Xor a) (Reduce kind.Xor b) h k e = let f : tree_of g a ≡ tree_of g b = cc in ap (λ x. Reduce kind.Xor x) (told a b h (omega arith) f)
  cells_same n m l told (Reduce kind.And a) _ h k e = cc
  cells_same n m l told (Reduce kind.Or a) _ h k e = cc
  cells_same n m l told (Reduce kind.Xor a) _ h k e = cc
  cells_same n m l told _ (Reduce kind.And b) h k e = cc
  cells_same n m l told _ (Reduce kind.Or b) h k e = cc
  cells_same n m l told _ (Reduce kind.Xor b) h k e = cc
  cells_same n m l told _ _ h k e = cc

  -- the cell of a place
  pub cell_there : (id : CellId) → id.0 < length g.cells → slice_get g.cells id.0 ≡ Some (cell_at g id)
  cell_there id l = slice_get-get_or g.cells id.0 (Const 1 0) l ∙ ap Some (sym (unwrap_or-slice_get g.cells id.0 (Const 1 0)))

  pub tree_there : IsWellFormed g → (id : CellId) → id.0 < length g.cells → tree_of g id ≡ unfolded g.signals (trees g) (cell_at g id)
  tree_there well id l = tree_of-cell g well id (cell_at g id) (cell_there id l)

  pub is_cell : IsWellFormed g → (id : CellId) → id.0 < length g.cells → IsCellOf g id.0 (cell_at g id)
  is_cell well id l = well.cells id.0 (cell_at g id) (cell_there id l)

  told : IsPlain g → (n : ℕ) → n ≤ length g.cells → Told n
  told plain zero l x y lx ly e = absurd (omega arith)
  told plain (suc n) l x y lx ly e =
      let lower : Told x.0 = λ a b la lb f. told plain n (omega arith) a b (omega arith) lb f in
      let same = cells_same x.0 y.0 (omega arith) lower (cell_at g x) (cell_at g y) (is_cell plain.well x (omega arith)) (is_cell plain.well y ly)
      (sym (tree_there plain.well x (omega arith)) ∙ e ∙ tree_there plain.well y ly) in
      same-cell x y (plain.shared x.0 y.0 (cell_at g y) (cell_there x (omega arith) ∙ ap Some same) (cell_there y ly))

  -- cells with equal trees are equal
  pub same_trees : IsPlain g → (x y : CellId) → x.0 < length g.cells → y.0 < length g.cells → tree_of g x ≡ tree_of g y → x ≡ y
  same_trees plain x y lx ly e = told plain (length g.cells) (omega arith) x y lx ly e

  -- bits that are equal in the trees are equal
  pub same_bits : IsPlain g → (m n : Node) → IsNodeOf g m → IsNodeOf g n → bit_of g m ≡ bit_of g n → m ≡ n
  same_bits plain m n of_m of_n e =
      let f : tree_of g m.cell ≡ tree_of g n.cell = ap (λ p. p.0) e in
      let i : m.at ≡ n.at = ap (λ p. p.1) e in
      ap₂ (λ (c : CellId) (a : ℕ). let x : Node = record { cell = c; at = a } in x) (same_trees plain m.cell n.cell of_m.0 of_n.0 f) i

-- ---- the kinds of cells, by their trees

module _ (g : Cells) where
  var_cell : (c : Cell) (sig w : ℕ) → unfolded g.signals (trees g) c ≡ tree.Var sig w → c ≡ Var sig
  var_cell (Var s) sig w e = let f : s ≡ sig = cc in ap (λ x. Var x) f
  var_cell (Reduce kind.And a) sig w e = cc
  var_cell (Reduce kind.Or a) sig w e = cc
  var_cell (Reduce kind.Xor a) sig w e = cc
  var_cell _ sig w e = cc

  add_cell : (c : Cell) (p q : Tree) → unfolded g.signals (trees g) c ≡ tree.Add p q → (a b : CellId) × (c ≡ Add a b) × (tree_of g a ≡ p) × (tree_of g b ≡ q)
  add_cell (Add a b) p q e = (a, b, refl, (let f : tree_of g a ≡ p = cc in f), (let f : tree_of g b ≡ q = cc in f))
  add_cell (Reduce kind.And a) p q e = cc
  add_cell (Reduce kind.Or a) p q e = cc
  add_cell (Reduce kind.Xor a) p q e = cc
  add_cell _ p q e = cc

  xor_cell : (c : Cell) (p q : Tree) → unfolded g.signals (trees g) c ≡ tree.Xor p q → (a b : CellId) × (c ≡ Xor a b) × (tree_of g a ≡ p) × (tree_of g b ≡ q)
  xor_cell (Xor a b) p q e = (a, b, refl, (let f : tree_of g a ≡ p = cc in f), (let f : tree_of g b ≡ q = cc in f))
  xor_cell (Reduce kind.And a) p q e = cc
  xor_cell (Reduce kind.Or a) p q e = cc
  xor_cell (Reduce kind.Xor a) p q e = cc
  xor_cell _ p q e = cc

  mux_cell : (c : Cell) (p q r : Tree) → unfolded g.signals (trees g) c ≡ tree.Mux p q r → (s a b : CellId) × (c ≡ Mux s a b) × (tree_of g s ≡ p) × (tree_of g a ≡ q) × (tree_of g b ≡ r)
  mux_cell (Mux s a b) p q r e = (s, a, b, refl, (let f : tree_of g s ≡ p = cc in f), (let f : tree_of g a ≡ q = cc in f), (let f : tree_of g b ≡ r = cc in f))
  mux_cell (Reduce kind.And a) p q r e = cc
  mux_cell (Reduce kind.Or a) p q r e = cc
  mux_cell (Reduce kind.Xor a) p q r e = cc
  mux_cell _ p q r e = cc

  module _ (well : IsWellFormed g) (id : CellId) (l : id.0 < length g.cells) where
    pub is_var : (sig w : ℕ) → tree_of g id ≡ tree.Var sig w → cell_at g id ≡ Var sig
    is_var sig w e = var_cell (cell_at g id) sig w (sym (tree_there g well id l) ∙ e)

    pub is_add : (p q : Tree) → tree_of g id ≡ tree.Add p q → (a b : CellId) × (cell_at g id ≡ Add a b) × (tree_of g a ≡ p) × (tree_of g b ≡ q)
    is_add p q e = add_cell (cell_at g id) p q (sym (tree_there g well id l) ∙ e)

    pub is_xor : (p q : Tree) → tree_of g id ≡ tree.Xor p q → (a b : CellId) × (cell_at g id ≡ Xor a b) × (tree_of g a ≡ p) × (tree_of g b ≡ q)
    is_xor p q e = xor_cell (cell_at g id) p q (sym (tree_there g well id l) ∙ e)

    pub is_mux : (p q r : Tree) → tree_of g id ≡ tree.Mux p q r → (s a b : CellId) × (cell_at g id ≡ Mux s a b) × (tree_of g s ≡ p) × (tree_of g a ≡ q) × (tree_of g b ≡ r)
    is_mux p q r e = mux_cell (cell_at g id) p q r (sym (tree_there g well id l) ∙ e)
