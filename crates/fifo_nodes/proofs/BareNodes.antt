-- Bare nodes, step by step.
use Rattle.std.proofs.Common.{◌≡◌, ◌≢◌, ◌∙◌, sym, ap, ap₂, refl, subst, arith, ◌<◌, Bool, true, false, Option, Some, None, option_map}
use Rattle.cell_graph.specs.declared.cell.Cell.{Cell}
use Rattle.cell_graph.specs.declared.cell.Cell.TheVariants.{Not, Xor, Shl, Shr, Concat, Slice, Extend, Reduce}
use Rattle.cell_graph.specs.declared.cell.CellId.{CellId}
use Rattle.cell_graph.specs.declared.cell.Node.{Node}
use Rattle.cell_graph.specs.declared.cell.ReduceKind.TheVariants as kind
use Rattle.cell_graph.specs.Cells.{Cells, cell_at, cell_width}
use Rattle.cell_graph.specs.Feeds.{node}
use Rattle.cell_graph.specs.Origin.{const_of, origin}
use Rattle.cell_graph.specs.Tree as tree
use Rattle.cell_graph.specs.Tree.{Tree, width}
use Rattle.cell_graph.specs.Unfolded.{unfolded, trees, tree_of, bit_of, IsCellOf, IsWellFormed, IsNodeOf}
use Rattle.cell_graph.proofs.Trees.{width-tree_of}
use Rattle.cdc_model.specs.Gray.{exclusive_or}
use Rattle.fifo_terms.specs.Terms as rules
use Rattle.fifo_terms.specs.Terms.{bare, beside_known, inverted_by, as_it_is, moved_up, moved_down}
use Rattle.gray_pointer.proofs.Trees.{tree_there, is_cell}
use Rattle.gray_pointer.specs.Words.{IsIn}
use Rattle.fifo_nodes.specs.declared.inversions.Operand.{Operand}
use Rattle.fifo_nodes.specs.Nodes.{IsOwn, IsWithin, IsSeenAs, IsBareOf, bare_bit, passes, known_of, seen_as}
use Rattle.fifo_nodes.proofs.Origins.{none_of, bare_origin}

xor_false : (v : Bool) → exclusive_or v false ≡ v
xor_false true = refl
xor_false false = refl

xor_assoc : (a b c : Bool) → exclusive_or a (exclusive_or b c) ≡ exclusive_or (exclusive_or a b) c
xor_assoc true true true = refl
xor_assoc true true false = refl
xor_assoc true false c = refl
xor_assoc false b c = refl

-- two inversions are one
pub inverted_twice : (u v : Bool) (b : rules.Bare) → inverted_by u (inverted_by v b) ≡ inverted_by (exclusive_or u v) b
inverted_twice u v b = ap (λ (w : Bool). let c : rules.Bare = record { node = b.node; inverted = w } in c) (xor_assoc u v b.inverted)

-- of two nodes one is known, or neither
module _ (g : Cells) (a b : Node) where
  pub seen_first : (v : Bool) → known_of g a ≡ Some v → seen_as b v ≡ beside_known (known_of g a) (known_of g b) (seen_as b) (seen_as a) None
  seen_first v e = sym (ap (λ p. beside_known p (known_of g b) (seen_as b) (seen_as a) None) e)

  pub seen_second : (v : Bool) → known_of g a ≡ None → known_of g b ≡ Some v
      → seen_as a v ≡ beside_known (known_of g a) (known_of g b) (seen_as b) (seen_as a) None
  seen_second v e f = sym (ap₂ (λ p q. beside_known p q (seen_as b) (seen_as a) None) e f)

  pub seen_neither : known_of g a ≡ None → known_of g b ≡ None → None ≡ beside_known (known_of g a) (known_of g b) (seen_as b) (seen_as a) None
  seen_neither e f = sym (ap₂ (λ p q. beside_known p q (seen_as b) (seen_as a) None) e f)

-- the node that was reached is the bare one
pub found_bare : (g : Cells) (b : rules.Bare) (v : Bool) (o : Option Node) → b ≡ inverted_by v (as_it_is (option_map (bit_of g) o)) → IsIn g o
    → IsBareOf g b (record { node = o; inverted = v })
found_bare g b v o e is = (ap (λ (c : rules.Bare). c.node) e, ap (λ (c : rules.Bare). c.inverted) e ∙ xor_false v, is)

-- the origin of the node that was reached, inverted as often as was met
pub bare_reached : (g : Cells) (start : rules.Bare) (below : Operand) (o : Option Node)
    → start ≡ inverted_by below.inverted (bare (tree_of g below.node.cell) below.node.at)
    → origin (tree_of g below.node.cell) below.node.at ≡ option_map (bit_of g) o → start ≡ inverted_by below.inverted (bare_bit (option_map (bit_of g) o))
bare_reached g start below o e f = e ∙ ap (inverted_by below.inverted) (bare_origin (tree_of g below.node.cell) below.node.at ∙ ap bare_bit f)

module _ (g : Cells) (well : IsWellFormed g) (n : Node) (is : IsOwn g n) where
  there : tree_of g n.cell ≡ unfolded g.signals (trees g) (cell_at g n.cell)
  there = tree_there g well n.cell is.0.0

  operand : (a : CellId) → a.0 < n.cell.0 → n.at < cell_width g a → IsWithin g n.cell.0 (Some (node a n.at))
  operand a h lt = let l = is.0.0 in (((omega arith), lt), h)

  pub not_seen : (a : CellId) → cell_at g n.cell ≡ Not a → IsSeenAs g n (Some (record { node = node a n.at; inverted = true }))
  not_seen a m =
      let e : tree_of g n.cell ≡ tree.Not (tree_of g a) = there ∙ ap (unfolded g.signals (trees g)) m in
      let h : IsCellOf g n.cell.0 (Not a) = subst (IsCellOf g n.cell.0) m (is_cell g well n.cell is.0.0) in
      let w = width-tree_of g n.cell in
      let f = ap width e in
      let u = width-tree_of g a in
      let lt = is.0.1 in
      (ap (λ t. bare t n.at) e, operand a h (omega arith))

  module _ (a b : CellId) (m : cell_at g n.cell ≡ Xor a b) where
    e : tree_of g n.cell ≡ tree.Xor (tree_of g a) (tree_of g b)
    e = there ∙ ap (unfolded g.signals (trees g)) m

    parts : IsCellOf g n.cell.0 (Xor a b)
    parts = subst (IsCellOf g n.cell.0) m (is_cell g well n.cell is.0.0)

    pub sides : IsNodeOf g (node a n.at) × IsNodeOf g (node b n.at)
    sides =
        let w = width-tree_of g n.cell in
        let f = ap width e in
        let u = width-tree_of g a in
        let p = parts in
        let h = p.0 in
        let k = p.1 in
        let s = p.2 in
        let lt = is.0.1 in
        let l = is.0.0 in
        (((omega arith), omega arith), ((omega arith), omega arith))

    pub xor_seen : (o : Option Operand)
        → o ≡ beside_known (known_of g (node a n.at)) (known_of g (node b n.at)) (seen_as (node b n.at)) (seen_as (node a n.at)) None → IsSeenAs g n o
    xor_seen o h = subst (IsSeenAs g n) (sym h) (go (known_of g (node a n.at)) refl (known_of g (node b n.at)) refl)
      where
        bare_is : (p q : Option Bool) → known_of g (node a n.at) ≡ p → known_of g (node b n.at) ≡ q
            → bare (tree_of g n.cell) n.at ≡ beside_known p q (λ c. inverted_by c (bare (tree_of g b) n.at)) (λ c. inverted_by c (bare (tree_of g a) n.at)) (as_it_is (Some (tree.Xor (tree_of g a) (tree_of g b), n.at)))
        bare_is p q i j = ap (λ t. bare t n.at) e
            ∙ ap₂ (λ x y. beside_known x y (λ c. inverted_by c (bare (tree_of g b) n.at)) (λ c. inverted_by c (bare (tree_of g a) n.at)) (as_it_is (Some (tree.Xor (tree_of g a) (tree_of g b), n.at)))) i j

        go : (p : Option Bool) → known_of g (node a n.at) ≡ p → (q : Option Bool) → known_of g (node b n.at) ≡ q
            → IsSeenAs g n (beside_known p q (seen_as (node b n.at)) (seen_as (node a n.at)) None)
        go (Some c) i q j = (bare_is (Some c) q i j, (sides.1, parts.1))
        go None i (Some c) j = (bare_is None (Some c) i j, (sides.0, parts.0))
        go None i None j = bare_is None None i j ∙ ap (λ t. as_it_is (Some (t, n.at))) (sym e)

  pub other_seen : ((a : CellId) → cell_at g n.cell ≢ Not a) → ((a b : CellId) → cell_at g n.cell ≢ Xor a b) → IsSeenAs g n None
  other_seen no_not no_xor = subst (λ t. bare t n.at ≡ as_it_is (Some (t, n.at))) (sym there)
      (go (cell_at g n.cell) no_not no_xor (subst (λ t. passes t ≡ false) there is.1))
    where
      go : (c : Cell) → ((a : CellId) → c ≢ Not a) → ((a b : CellId) → c ≢ Xor a b) → passes (unfolded g.signals (trees g) c) ≡ false
          → bare (unfolded g.signals (trees g) c) n.at ≡ as_it_is (Some (unfolded g.signals (trees g) c, n.at))
      go (Not a) h k p = absurd (h a refl)
      go (Xor a b) h k p = absurd (k a b refl)
      go (Concat high low) h k p = absurd (cc)
      go (Slice a at w) h k p = absurd (cc)
      go (Extend a w) h k p = absurd (cc)
      go (Shl a by) h k p =
          let t = tree.Shl (tree_of g a) (tree_of g by) in
          ap (λ o. moved_up o n.at (width (tree_of g a)) (as_it_is (Some (t, n.at))) (as_it_is None) (λ j. bare (tree_of g a) j)) (none_of (const_of (tree_of g by)) p)
      go (Shr a by) h k p =
          let t = tree.Shr (tree_of g a) (tree_of g by) in
          ap (λ o. moved_down o n.at (width (tree_of g a)) (as_it_is (Some (t, n.at))) (as_it_is None) (λ j. bare (tree_of g a) j)) (none_of (const_of (tree_of g by)) p)
      go (Reduce kind.And a) h k p = refl
      go (Reduce kind.Or a) h k p = refl
      go (Reduce kind.Xor a) h k p = refl
      go _ h k p = refl
