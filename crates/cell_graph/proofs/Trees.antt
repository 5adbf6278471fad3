-- The tree of a cell, by the trees of its operands.
use Rattle.std.proofs.Common.{◌≡◌, ◌∙◌, sym, ap, ap₂, refl, arith, ℕ, zero, suc, ◌+◌, ◌<◌, min, List, [], ◌∷◌, ◌++◌, length, map, Option, Some, None, slice_get, unwrap_or, option_map}
use Rattle.std.proofs.lemmas.List.{map-append}
use Rattle.std.proofs.lemmas.Option.{slice_get-map}
use Rattle.cdc_base.specs.declared.signal.Signal.{Signal}
use Rattle.cell_graph.specs.declared.cell.Cell.{Cell}
use Rattle.cell_graph.specs.declared.cell.Cell.TheVariants.{Var, Const, Not, And, Or, Xor, Add, Sub, Eq, Lt, Shl, Shr, Mux, Concat, Slice, Extend, Reduce}
use Rattle.cell_graph.specs.declared.cell.CellId.{CellId}
use Rattle.cell_graph.specs.declared.cell.ReduceKind.{ReduceKind}
use Rattle.cell_graph.specs.declared.cell.ReduceKind.TheVariants as kind
use Rattle.cell_graph.specs.Tree.{Tree, width}
use Rattle.cell_graph.specs.Cells.{Cells, in_order, width_at, width_of, cell_width}
use Rattle.cell_graph.specs.Unfolded.{tree_at, unfolded, reduced, trees, tree_of, IsCellOf, IsWellFormed}

-- ---- widths

width-tree_at : (ts : List Tree) (id : CellId) → width_at (map width ts) id ≡ width (tree_at ts id)
width-tree_at ts id = ap (λ o. unwrap_or o 1) (slice_get-map width ts id.0) ∙ by (slice_get ts id.0)
  where
    by : (o : Option Tree) → unwrap_or (option_map width o) 1 ≡ width (unwrap_or o (Tree.Const 1 0))
    by None = refl
    by (Some t) = refl

width-reduced : (k : ReduceKind) (t : Tree) → 1 ≡ width (reduced k t)
width-reduced kind.And t = refl
width-reduced kind.Or t = refl
width-reduced kind.Xor t = refl

pub width-unfolded : (signals : List Signal) (ts : List Tree) (c : Cell) → width_of signals (map width ts) c ≡ width (unfolded signals ts c)
width-unfolded signals ts (Var sig) = refl
width-unfolded signals ts (Const w value) = refl
width-unfolded signals ts (Not a) = width-tree_at ts a
width-unfolded signals ts (And a b) = width-tree_at ts a
width-unfolded signals ts (Or a b) = width-tree_at ts a
width-unfolded signals ts (Xor a b) = width-tree_at ts a
width-unfolded signals ts (Add a b) = width-tree_at ts a
width-unfolded signals ts (Sub a b) = width-tree_at ts a
width-unfolded signals ts (Eq a b) = refl
width-unfolded signals ts (Lt a b) = refl
width-unfolded signals ts (Shl a by) = width-tree_at ts a
width-unfolded signals ts (Shr a by) = width-tree_at ts a
width-unfolded signals ts (Mux c x y) = width-tree_at ts x
width-unfolded signals ts (Concat high low) = ap₂ (λ m n. min (m + n) 255) (width-tree_at ts high) (width-tree_at ts low)
width-unfolded signals ts (Slice a at w) = refl
width-unfolded signals ts (Extend a w) = refl
width-unfolded signals ts (Reduce k a) = width-reduced k (tree_at ts a)

pub widths-after : (signals : List Signal) (ts : List Tree) (cs : List Cell) → in_order (width_of signals) (map width ts) cs ≡ map width (in_order (unfolded signals) ts cs)
widths-after signals ts [] = refl
widths-after signals ts (c ∷ cs) =
    ap (λ ws. in_order (width_of signals) ws cs) (ap (λ w. map width ts ++ w ∷ []) (width-unfolded signals ts c) ∙ sym (map-append width ts (unfolded signals ts c ∷ [])))
    ∙ widths-after signals (ts ++ unfolded signals ts c ∷ []) cs

-- a cell's width is that of its tree
pub width-tree_of : (g : Cells) (id : CellId) → cell_width g id ≡ width (tree_of g id)
width-tree_of g id = ap (λ ws. width_at ws id) (widths-after g.signals [] g.cells) ∙ width-tree_at (trees g) id

-- ---- the answers for cells, place by place

pub length-push : {A : Type 0} (xs : List A) (y : A) → length (xs ++ y ∷ []) ≡ suc (length xs)
length-push [] y = refl
length-push (x ∷ xs) y = ap suc (length-push xs y)

pub get-push_old : {A : Type 0} (xs : List A) (y : A) (k : ℕ) → k < length xs → slice_get (xs ++ y ∷ []) k ≡ slice_get xs k
get-push_old [] y k h = absurd (omega arith)
get-push_old (x ∷ xs) y zero h = refl
get-push_old (x ∷ xs) y (suc k) h = get-push_old xs y k (omega arith)

get-push_new : {A : Type 0} (xs : List A) (y : A) (k : ℕ) → k ≡ length xs → slice_get (xs ++ y ∷ []) k ≡ Some y
get-push_new [] y k h = ap (slice_get (y ∷ [])) h
get-push_new (x ∷ xs) y zero h = absurd (omega arith)
get-push_new (x ∷ xs) y (suc k) h = get-push_new xs y k (omega arith)

pub in_order-before : {A : Type 0} (f : List A → Cell → A) (before : List A) (cs : List Cell) (k : ℕ) → k < length before
    → slice_get (in_order f before cs) k ≡ slice_get before k
in_order-before f before [] k h = refl
in_order-before f before (c ∷ cs) k h =
    in_order-before f (before ++ f before c ∷ []) cs k (let l = length-push before (f before c) in omega arith) ∙ get-push_old before (f before c) k h

-- each answer is made of answers that agree with the final ones at the places before it
pub in_order-at : {A : Type 0} (f : List A → Cell → A) (before : List A) (cs : List Cell) (j k : ℕ) (c : Cell) → k ≡ length before + j → slice_get cs j ≡ Some c
    → (xs : List A) × ((i : ℕ) → i < k → slice_get (in_order f before cs) i ≡ slice_get xs i) × (slice_get (in_order f before cs) k ≡ Some (f xs c))
in_order-at f before [] j k c e h = cc
in_order-at f before (d ∷ cs) zero k c e h =
    let same : d ≡ c = cc in
    let at : k ≡ length before = omega arith in
    let l = length-push before (f before d) in (
      before,
      λ i lt. in_order-before f before (d ∷ cs) i (omega arith),
      in_order-before f (before ++ f before d ∷ []) cs k (omega arith) ∙ get-push_new before (f before d) k at ∙ ap (λ x. Some (f before x)) same,
    )
in_order-at f before (d ∷ cs) (suc j) k c e h = in_order-at f (before ++ f before d ∷ []) cs j k c (let l = length-push before (f before d) in omega arith) h

-- ---- trees

module _ (g : Cells) (n : ℕ) (ts us : List Tree) (same : (i : ℕ) → i < n → slice_get ts i ≡ slice_get us i) where
  at : (a : CellId) → a.0 < n → tree_at ts a ≡ tree_at us a
  at a h = ap (λ o. unwrap_or o (Tree.Const 1 0)) (same a.0 h)

  -- the tree of a cell comes of the trees before it
  unfolded-same : (c : Cell) → IsCellOf g n c → unfolded g.signals ts c ≡ unfolded g.signals us c
  unfolded-same (Var sig) h = refl
  unfolded-same (Const w value) h = refl
  unfolded-same (Not a) h = ap Tree.Not (at a h)
  unfolded-same (And a b) h = ap₂ Tree.And (at a h.0) (at b h.1)
  unfolded-same (Or a b) h = ap₂ Tree.Or (at a h.0) (at b h.1)
  unfolded-same (Xor a b) h = ap₂ Tree.Xor (at a h.0) (at b h.1)
  unfolded-same (Add a b) h = ap₂ Tree.Add (at a h.0) (at b h.1)
  unfolded-same (Sub a b) h = ap₂ Tree.Sub (at a h.0) (at b h.1)
  unfolded-same (Eq a b) h = ap₂ Tree.Eq (at a h.0) (at b h.1)
  unfolded-same (Lt a b) h = ap₂ Tree.Lt (at a h.0) (at b h.1)
  unfolded-same (Shl a by) h = ap₂ Tree.Shl (at a h.0) (at by h.1)
  unfolded-same (Shr a by) h = ap₂ Tree.Shr (at a h.0) (at by h.1)
  unfolded-same (Mux c x y) h = ap₂ (λ (p q : Tree). Tree.Mux p q (tree_at ts y)) (at c h.0) (at x h.2.0) ∙ ap (λ q. Tree.Mux (tree_at us c) (tree_at us x) q) (at y h.2.1)
  unfolded-same (Concat high low) h = ap₂ Tree.Concat (at high h.0) (at low h.1)
  unfolded-same (Slice a from w) h = ap (λ t. Tree.Slice t from w) (at a h.0)
  unfolded-same (Extend a w) h = ap (λ t. Tree.Extend t w) (at a h.0)
  unfolded-same (Reduce k a) h = ap (reduced k) (at a h)

-- the tree of a cell is made of the trees of its operands
pub tree_of-cell : (g : Cells) → IsWellFormed g → (id : CellId) (c : Cell) → slice_get g.cells id.0 ≡ Some c → tree_of g id ≡ unfolded g.signals (trees g) c
tree_of-cell g well id c h =
    let found = in_order-at (unfolded g.signals) [] g.cells id.0 id.0 c (omega arith) h in
    ap (λ o. unwrap_or o (Tree.Const 1 0)) found.2
    ∙ unfolded-same g id.0 found.0 (trees g) (λ i l. sym (found.1 i l)) c (well.cells id.0 c h)
