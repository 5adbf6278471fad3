-- A graph to which a cell is added, and the widths of its cells.
use Rattle.std.proofs.Common.{◌≡◌, ◌∙◌, ◌⊎◌, inl, inr, sym, ap, ap₂, subst, refl, arith, ℕ, zero, suc, ◌<◌, ◌≤◌, cond, List, [], ◌∷◌, ◌++◌, length, Option, Some, None, is_some, unwrap_or, slice_get}
use Rattle.std.proofs.lemmas.Option.{slice_get_within, slice_get_past}
use Rattle.cdc_base.specs.declared.signal.Signal.{Signal}
use Rattle.cell_graph.specs.declared.cell.Cell.{Cell}
use Rattle.cell_graph.specs.declared.cell.Cell.TheVariants.{Var, Const, Not, And, Or, Xor, Add, Sub, Eq, Lt, Shl, Shr, Mux, Concat, Slice, Extend, Reduce}
use Rattle.cell_graph.specs.declared.cell.CellId.{CellId}
use Rattle.cell_graph.specs.declared.cell.ReduceKind.{ReduceKind}
use Rattle.cell_graph.specs.declared.cell.ReduceKind.TheVariants as kind
use Rattle.cell_graph.specs.Tree.{Tree, width}
use Rattle.cell_graph.specs.Cells.{Cells, cell_width, place_in, signal_width, with_cell, width_at, width_of, widths}
use Rattle.cell_graph.specs.Nets.{IsWordOf, Keeps}
use Rattle.cell_graph.specs.Unfolded.{IsCellOf, IsWellFormed, reduced, tree_of, trees, unfolded}
use Rattle.cell_graph.proofs.CellValues.{length-in_order, no-tree, width-64}
use Rattle.cell_graph.proofs.Places.{in_order-push}
use Rattle.cell_graph.proofs.Trees.{get-push_old, length-push, tree_of-cell, width-tree_of, width-unfolded, widths-after}

-- ---- what stays

-- the same cells, and the cells with one behind them
words-same : (g h : Cells) → h.signals ≡ g.signals → h.cells ≡ g.cells → (id : CellId) (w : ℕ) → IsWordOf g id w → IsWordOf h id w
words-same g h s e id w is = (subst (λ cs. id.0 < length cs) (sym e) is.0, ap₂ (λ ss cs. width_at (widths ss cs) id) s e ∙ is.1)

words-pushed : (g h : Cells) (c : Cell) → h.signals ≡ g.signals → h.cells ≡ g.cells ++ c ∷ [] → (id : CellId) (w : ℕ) → IsWordOf g id w → IsWordOf h id w
words-pushed g h c s e id w is = (
  (let l = length-push g.cells c in let m = ap length e in omega arith),
  ap₂ (λ ss cs. width_at (widths ss cs) id) s e
      ∙ ap (λ ws. width_at ws id) (in_order-push (width_of g.signals) [] g.cells c)
      ∙ ap (λ o. unwrap_or o 1) (get-push_old (widths g.signals g.cells) (width_of g.signals (widths g.signals g.cells) c) id.0 (let l = length-in_order (width_of g.signals) [] g.cells in let i = is.0 in omega arith))
      ∙ is.1,
)

-- an added cell leaves the cells before it
pub added-keeps : (g h : Cells) (c : Cell) → h.signals ≡ g.signals → h.cells ≡ with_cell g.cells c → Keeps g h
added-keeps g h c s e = go (place_in g.cells c) refl
  where
    go : (o : Option ℕ) → place_in g.cells c ≡ o → Keeps g h
    go (Some k) f = (s, words-same g h s (e ∙ ap (λ o. cond (is_some o) g.cells (g.cells ++ c ∷ [])) f))
    go None f = (s, words-pushed g h c s (e ∙ ap (λ o. cond (is_some o) g.cells (g.cells ++ c ∷ [])) f))

pub keeps-refl : (g : Cells) → Keeps g g
keeps-refl g = (refl, λ id w is. is)

pub keeps-trans : (g h k : Cells) → Keeps g h → Keeps h k → Keeps g k
keeps-trans g h k a b = (b.0 ∙ a.0, λ id w is. b.1 id w (a.1 id w is))

-- a cell that may stand at a place may stand there in a later graph
module _ (g h : Cells) (keeps : Keeps g h) (n : ℕ) (within : n ≤ length g.cells) where
  wide : (a : CellId) → a.0 < n → cell_width h a ≡ cell_width g a
  wide a l = (keeps.1 a (cell_width g a) ((omega arith), refl)).1

  alike : (a b : CellId) → a.0 < n → b.0 < n → cell_width g a ≡ cell_width g b → cell_width h a ≡ cell_width h b
  alike a b l m e = wide a l ∙ e ∙ sym (wide b m)

  pub cell-kept : (c : Cell) → IsCellOf g n c → IsCellOf h n c
  cell-kept (Var sig) is = subst (λ ss. sig < length ss) (sym keeps.0) is
  cell-kept (Const w value) is = is
  cell-kept (Not a) is = is
  cell-kept (And a b) is = (is.0, is.1, alike a b is.0 is.1 is.2)
  cell-kept (Or a b) is = (is.0, is.1, alike a b is.0 is.1 is.2)
  cell-kept (Xor a b) is = (is.0, is.1, alike a b is.0 is.1 is.2)
  cell-kept (Add a b) is = (is.0, is.1, alike a b is.0 is.1 is.2)
  cell-kept (Sub a b) is = (is.0, is.1, alike a b is.0 is.1 is.2)
  cell-kept (Eq a b) is = (is.0, is.1, alike a b is.0 is.1 is.2)
  cell-kept (Lt a b) is = (is.0, is.1, alike a b is.0 is.1 is.2)
  cell-kept (Shl a by) is = is
  cell-kept (Shr a by) is = is
  cell-kept (Mux c x y) is = (is.0, wide c is.0 ∙ is.1, (is.2.0, is.2.1, alike x y is.2.0 is.2.1 is.2.2))
  cell-kept (Concat high low) is = (is.0, is.1, (let p = wide high is.0 in let q = wide low is.1 in let l = is.2 in omega arith))
  cell-kept (Slice a at w) is = (is.0, is.1, (let p = wide a is.0 in let l = is.2 in omega arith))
  cell-kept (Extend a w) is = (is.0, (let p = wide a is.0 in let l = is.1 in omega arith), is.2)
  cell-kept (Reduce k a) is = is

-- a place of the longer list is one of the shorter, or the last
get-push : (cs : List Cell) (c d : Cell) (n : ℕ) → slice_get (cs ++ c ∷ []) n ≡ Some d → (slice_get cs n ≡ Some d) ⊎ ((n ≡ length cs) × (c ≡ d))
get-push [] c d zero e = inr (refl, (cc))
get-push [] c d (suc n) e = cc
get-push (x ∷ cs) c d zero e = inl e
get-push (x ∷ cs) c d (suc n) e = elim (get-push cs c d n e) [
  | inl f ↦ inl f
  | inr p ↦ inr (ap suc p.0, p.1)
]

-- a graph stays well formed where a cell that may stand at its end is added
pub added-well : (g h : Cells) (c : Cell) → IsWellFormed g → IsCellOf g (length g.cells) c → h.signals ≡ g.signals → h.cells ≡ with_cell g.cells c → IsWellFormed h
added-well g h c well is s e = record {
  signals = λ sig t at. well.signals sig t (ap (λ ss. slice_get ss sig) (sym s) ∙ at);
  cells = λ n d at. go (place_in g.cells c) refl n d at;
}
  where
    keeps : Keeps g h
    keeps = added-keeps g h c s e

    old : (n : ℕ) (d : Cell) → slice_get g.cells n ≡ Some d → IsCellOf h n d
    old n d at = cell-kept g h keeps n (let l = slice_get_within g.cells n d at in omega arith) d (well.cells n d at)

    go : (o : Option ℕ) → place_in g.cells c ≡ o → (n : ℕ) (d : Cell) → slice_get h.cells n ≡ Some d → IsCellOf h n d
    go (Some k) f n d at = old n d (ap (λ cs. slice_get cs n) (sym (e ∙ ap (λ o. cond (is_some o) g.cells (g.cells ++ c ∷ [])) f)) ∙ at)
    go None f n d at = elim (get-push g.cells c d n (ap (λ cs. slice_get cs n) (sym (e ∙ ap (λ o. cond (is_some o) g.cells (g.cells ++ c ∷ [])) f)) ∙ at)) [
      | inl there ↦ old n d there
      | inr new ↦ subst (λ k. IsCellOf h k d) (sym new.0) (subst (λ x. IsCellOf h (length g.cells) x) new.1 (cell-kept g h keeps (length g.cells) (omega arith) c is))
    ]

-- ---- widths

-- the width of a cell is that which its form gives it
pub width-cell : (g : Cells) → IsWellFormed g → (id : CellId) (c : Cell) → slice_get g.cells id.0 ≡ Some c → cell_width g id ≡ width_of g.signals (widths g.signals g.cells) c
width-cell g well id c at =
    width-tree_of g id ∙ ap width (tree_of-cell g well id c at) ∙ sym (width-unfolded g.signals (trees g) c)
    ∙ ap (λ ws. width_of g.signals ws c) (sym (widths-after g.signals [] g.cells))

pub no-width : (g : Cells) (id : CellId) → length g.cells ≤ id.0 → cell_width g id ≡ 1
no-width g id l = width-tree_of g id ∙ ap width (no-tree g id (slice_get_past g.cells id.0 l))

module _ (g : Cells) (well : IsWellFormed g) where
  pub signal-sized : (sig : ℕ) → (1 ≤ signal_width g.signals sig) × (signal_width g.signals sig ≤ 64)
  signal-sized sig = go (slice_get g.signals sig) refl
    where
      go : (o : Option Signal) → slice_get g.signals sig ≡ o → (1 ≤ signal_width g.signals sig) × (signal_width g.signals sig ≤ 64)
      go (Some s) e = rw e (well.signals sig s e)
      go None e = rw e ((omega arith), (omega arith))

  some-kind : (k : ReduceKind) (t : Tree) → 1 ≤ width (reduced k t)
  some-kind kind.And t = omega arith
  some-kind kind.Or t = omega arith
  some-kind kind.Xor t = omega arith

  some-bits : (c : Cell) (n : ℕ) → IsCellOf g n c → ((a : CellId) → a.0 < n → 1 ≤ width (tree_of g a)) → 1 ≤ width (unfolded g.signals (trees g) c)
  some-bits (Var sig) n is below = (signal-sized sig).0
  some-bits (Const w value) n is below = is.0
  some-bits (Not a) n is below = below a is
  some-bits (And a b) n is below = below a is.0
  some-bits (Or a b) n is below = below a is.0
  some-bits (Xor a b) n is below = below a is.0
  some-bits (Add a b) n is below = below a is.0
  some-bits (Sub a b) n is below = below a is.0
  some-bits (Eq a b) n is below = omega arith
  some-bits (Lt a b) n is below = omega arith
  some-bits (Shl a by) n is below = below a is.0
  some-bits (Shr a by) n is below = below a is.0
  some-bits (Mux c x y) n is below = below x is.2.0
  some-bits (Concat high low) n is below = let p = below high is.0 in omega arith
  some-bits (Slice a at w) n is below = is.1
  some-bits (Extend a w) n is below = let l = is.1 in omega arith
  some-bits (Reduce k a) n is below = some-kind k (tree_of g a)

  at-least : (n : ℕ) (id : CellId) → id.0 < n → 1 ≤ width (tree_of g id)
  at-least zero id l = absurd (omega arith)
  at-least (suc n) id l = go (slice_get g.cells id.0) refl (λ a m. at-least n a (omega arith))
    where
      go : (o : Option Cell) → slice_get g.cells id.0 ≡ o → ((a : CellId) → a.0 < id.0 → 1 ≤ width (tree_of g a)) → 1 ≤ width (tree_of g id)
      go (Some c) e below = rw (tree_of-cell g well id c e) (some-bits c id.0 (well.cells id.0 c e) below)
      go None e below = rw (no-tree g id e) (omega arith)

  -- every word of the graph has 1 to 64 bits
  pub cell-sized : (id : CellId) → (1 ≤ cell_width g id) × (cell_width g id ≤ 64)
  cell-sized id =
      let e = width-tree_of g id in let l = at-least (suc id.0) id (omega arith) in let m = width-64 g well id in
      ((omega arith), (omega arith))
