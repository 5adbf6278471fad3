-- What the terms of a bit of a cell are made of.
use Rattle.std.proofs.Common.{◌≡◌, ◌∙◌, sym, ap, refl, subst, arith, ℕ, ◌<◌, ◌==◌, ◌||◌, Bool, true, false, cond, not, Some, []}
use Rattle.cell_graph.specs.declared.cell.Cell.{Cell}
use Rattle.cell_graph.specs.declared.cell.Cell.TheVariants.{Not, And, Or, Xor, Eq, Shl, Shr, Concat, Slice, Extend, Reduce}
use Rattle.cell_graph.specs.declared.cell.CellId.{CellId}
use Rattle.cell_graph.specs.declared.cell.Node.{Node}
use Rattle.cell_graph.specs.declared.cell.ReduceKind.TheVariants as kind
use Rattle.cell_graph.specs.Cells.{Cells, cell_at, cell_width}
use Rattle.cell_graph.specs.Cofactor.{known}
use Rattle.cell_graph.specs.Feeds.{node}
use Rattle.cell_graph.specs.Origin.{const_of}
use Rattle.cell_graph.specs.Tree as tree
use Rattle.cell_graph.specs.Tree.{Tree, width}
use Rattle.cell_graph.specs.Unfolded.{unfolded, trees, tree_of, IsCellOf, IsWellFormed, IsNodeOf}
use Rattle.cell_graph.proofs.Trees.{width-tree_of}
use Rattle.fifo_terms.specs.Terms.{terms, moved_up, moved_down, unless_known, itself, zero_terms, each_below}
use Rattle.gray_pointer.proofs.Trees.{tree_there, is_cell}
use Rattle.fifo_nodes.specs.declared.search.Made.{Made}
use Rattle.fifo_nodes.specs.declared.search.Made.TheVariants.{Both, Each, Pairs, Itself}
use Rattle.fifo_nodes.specs.Nodes.{IsOwn, IsWithin, passes}
use Rattle.fifo_nodes.specs.Searches.{made_by, made_terms, IsMadeIn}
use Rattle.fifo_nodes.specs.Terms.{unequal}
use Rattle.fifo_nodes.proofs.Origins.{none_of}

module _ (g : Cells) (well : IsWellFormed g) (n : Node) (is : IsNodeOf g n) where
  abbrev Holds : Bool → Cell → Tree → Type 0
  Holds v c t = (terms t n.at v ≡ unless_known (known [] t n.at) v (made_terms g t n.at v (made_by g c n.at v)))
      × IsMadeIn g n.cell.0 (made_by g c n.at v)

  operand : (a : CellId) (j : ℕ) → a.0 < n.cell.0 → j < cell_width g a → IsWithin g n.cell.0 (Some (node a j))
  operand a j h lt = let l = is.0 in (((omega arith), lt), h)

  pick : (t : Tree) (v c : Bool) (p q : Made) → cond c (made_terms g t n.at v p) (made_terms g t n.at v q) ≡ made_terms g t n.at v (cond c p q)
  pick t v true p q = refl
  pick t v false p q = refl

  pick_in : (c : Bool) (p q : Made) → IsMadeIn g n.cell.0 p → IsMadeIn g n.cell.0 q → IsMadeIn g n.cell.0 (cond c p q)
  pick_in true p q h k = h
  pick_in false p q h k = k

  both_in : (a b : CellId) → a.0 < n.cell.0 → b.0 < n.cell.0 → cell_width g a ≡ cell_width g b → n.at < width (tree_of g a)
      → IsWithin g n.cell.0 (Some (node a n.at)) × IsWithin g n.cell.0 (Some (node b n.at))
  both_in a b h k s lt = let w = width-tree_of g a in (operand a n.at h (omega arith), operand b n.at k (omega arith))

  go : (v : Bool) (c : Cell) → IsCellOf g n.cell.0 c → n.at < width (unfolded g.signals (trees g) c)
      → passes (unfolded g.signals (trees g) c) ≡ false → Holds v c (unfolded g.signals (trees g) c)
  go v (Not a) h lt p = let w = width-tree_of g a in (refl, operand a n.at h (omega arith))
  go v (And a b) h lt p =
      let t = tree.And (tree_of g a) (tree_of g b) in
      (ap (unless_known (known [] t n.at) v) (pick t v v (Both (node a n.at) (node b n.at)) Itself), pick_in v (Both (node a n.at) (node b n.at)) Itself (both_in a b h.0 h.1 h.2 lt) tt)
  go v (Or a b) h lt p =
      let t = tree.Or (tree_of g a) (tree_of g b) in
      (ap (unless_known (known [] t n.at) v) (pick t v v Itself (Both (node a n.at) (node b n.at))), pick_in v Itself (Both (node a n.at) (node b n.at)) tt (both_in a b h.0 h.1 h.2 lt))
  go v (Xor a b) h lt p = let k = both_in a b h.0 h.1 h.2 lt in (refl, (k.0, k.1, refl))
  go v (Eq a b) h lt p =
      let t = tree.Eq (tree_of g a) (tree_of g b) in
      let s = h.2 in (
        ap (λ w. unless_known (known [] t n.at) v (cond (v || (w == 1)) (each_below (λ j. unequal g (node a j) (node b j) (not v)) w) (itself t n.at v))) (sym (width-tree_of g a))
            ∙ ap (unless_known (known [] t n.at) v) (pick t v (v || (cell_width g a == 1)) (Pairs a b) Itself),
        pick_in (v || (cell_width g a == 1)) (Pairs a b) Itself (λ j l. (operand a j h.0 l, operand b j h.1 (omega arith))) tt,
      )
  go v (Reduce kind.And a) h lt p =
      let t = tree.ReduceAnd (tree_of g a) in (
        ap (λ w. unless_known (known [] t n.at) v (cond v (each_below (λ j. terms (tree_of g a) j v) w) (itself t n.at v))) (sym (width-tree_of g a))
            ∙ ap (unless_known (known [] t n.at) v) (pick t v v (Each a) Itself),
        pick_in v (Each a) Itself (λ j l. operand a j h l) tt,
      )
  go v (Reduce kind.Or a) h lt p =
      let t = tree.ReduceOr (tree_of g a) in (
        ap (λ w. unless_known (known [] t n.at) v (cond v (itself t n.at v) (each_below (λ j. terms (tree_of g a) j v) w))) (sym (width-tree_of g a))
            ∙ ap (unless_known (known [] t n.at) v) (pick t v v Itself (Each a)),
        pick_in v Itself (Each a) tt (λ j l. operand a j h l),
      )
  go v (Concat high low) h lt p = absurd (cc)
  go v (Slice a at w) h lt p = absurd (cc)
  go v (Extend a w) h lt p = absurd (cc)
  go v (Shl a by) h lt p =
      let t = tree.Shl (tree_of g a) (tree_of g by) in (
        ap (λ o. moved_up o n.at (width (tree_of g a)) (unless_known (known [] t n.at) v (itself t n.at v)) (zero_terms v) (λ j. terms (tree_of g a) j v)) (none_of (const_of (tree_of g by)) p),
        tt,
      )
  go v (Shr a by) h lt p =
      let t = tree.Shr (tree_of g a) (tree_of g by) in (
        ap (λ o. moved_down o n.at (width (tree_of g a)) (unless_known (known [] t n.at) v (itself t n.at v)) (zero_terms v) (λ j. terms (tree_of g a) j v)) (none_of (const_of (tree_of g by)) p),
        tt,
      )
  go v (Reduce kind.Xor a) h lt p = (refl, tt)
  go v _ h lt p = (refl, tt)

pub made_is : (g : Cells) → IsWellFormed g → (n : Node) → IsOwn g n → (v : Bool)
    → (terms (tree_of g n.cell) n.at v ≡ unless_known (known [] (tree_of g n.cell) n.at) v (made_terms g (tree_of g n.cell) n.at v (made_by g (cell_at g n.cell) n.at v)))
    × IsMadeIn g n.cell.0 (made_by g (cell_at g n.cell) n.at v)
made_is g well n is v =
    let e = tree_there g well n.cell is.0.0 in
    let w = width-tree_of g n.cell in
    let f = ap width e in
    let lt = is.0.1 in
    subst (λ t. (terms t n.at v ≡ unless_known (known [] t n.at) v (made_terms g t n.at v (made_by g (cell_at g n.cell) n.at v))) × IsMadeIn g n.cell.0 (made_by g (cell_at g n.cell) n.at v)) (sym e)
    (go g well n is.0 v (cell_at g n.cell) (is_cell g well n.cell is.0.0) (omega arith) (subst (λ t. passes t ≡ false) e is.1))
