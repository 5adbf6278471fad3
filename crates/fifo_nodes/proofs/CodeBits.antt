-- Bits of words whose codes are looked for, by nodes of a graph.
use Rattle.std.proofs.Common.{◌≡◌, ◌∙◌, sym, ap, ap₂, subst, inl, inr, ◌⊎◌, ℕ, zero, suc, ◌<◌, length, Option, Some}
use Rattle.std.proofs.Common.{None, option_map, List, [], ◌∷◌, map, slice_get, Contains}
use Rattle.cdc_model.proofs.Ascending.{here, later}
use Rattle.cdc_model.specs.Word.{IsZero}
use Rattle.cell_graph.specs.declared.cell.CellId.{CellId}
use Rattle.cell_graph.specs.declared.cell.Node.{Node}
use Rattle.cell_graph.specs.Cells.{Cells}
use Rattle.cell_graph.specs.Origin.{TreeBit, origin}
use Rattle.cell_graph.specs.Tree.{Tree, Xor}
use Rattle.cell_graph.specs.Unfolded.{tree_of, bit_of}
use Rattle.gray_pointer.specs.Words.{IsPlain, IsIn}
use Rattle.gray_pointer.proofs.Bits.{same_tree, same_place}
use Rattle.gray_pointer.proofs.Trees.{same_trees}
use Rattle.gray_pointer.proofs.Wholes.{same_origins}
use Rattle.fifo_nodes.specs.declared.codes.Operands.{Operands}
use Rattle.fifo_nodes.specs.Codes.{AreOperands, IsBesideZero}

-- ---- bits of words

pub cell_bit : (g : Cells) → IsPlain g → (cell : CellId) (at : ℕ) → cell.0 < length g.cells → (node : Option Node) → IsIn g node
    → option_map (bit_of g) node ≡ Some (tree_of g cell, at)
    → node ≡ Some (record { cell = cell; at = at })
cell_bit g plain cell at l None is e = cc
cell_bit g plain cell at l (Some n) is e =
    let t = same_tree (tree_of g n.cell) (tree_of g cell) n.at at e in
    let i = same_place (tree_of g n.cell) (tree_of g cell) n.at at e in
    ap₂ (λ (c : CellId) (k : ℕ). let m : Node = record { cell = c; at = k } in Some m) (same_trees g plain n.cell cell is.0 l t) i

-- ---- exclusive ors

module _ (g : Cells) (x : TreeBit) (o : Operands) (are : AreOperands g x (Some o)) where
  abbrev pub first : TreeBit
  first = origin (tree_of g o.one.cell) o.one.at

  abbrev pub second : TreeBit
  second = origin (tree_of g o.another.cell) o.another.at

  same_second : origin (tree_of g o.another.cell) o.one.at ≡ second
  same_second = ap (origin (tree_of g o.another.cell)) (sym are.1)

  module _ (a b : Tree) (k : ℕ) (is : x ≡ Some (Xor a b, k)) where
    same : Xor (tree_of g o.one.cell) (tree_of g o.another.cell) ≡ Xor a b
    same = same_tree (Xor (tree_of g o.one.cell) (tree_of g o.another.cell)) (Xor a b) o.one.at k (sym are.0 ∙ is)

    place : o.one.at ≡ k
    place = same_place (Xor (tree_of g o.one.cell) (tree_of g o.another.cell)) (Xor a b) o.one.at k (sym are.0 ∙ is)

    pub left : tree_of g o.one.cell ≡ a
    left = let s = same in cc

    pub right : tree_of g o.another.cell ≡ b
    right = let s = same in cc

    pub first_is : first ≡ origin a k
    first_is = ap₂ origin left place

    pub second_is : second ≡ origin b k
    second_is = ap₂ origin right (are.1 ∙ place)

    pub zero_right : IsZero b k → IsZero (tree_of g o.another.cell) o.another.at
    zero_right z = subst (λ (t : Tree). IsZero t o.another.at) (sym right) (subst (IsZero b) (sym (are.1 ∙ place)) z)

    pub zero_left : IsZero a k → IsZero (tree_of g o.one.cell) o.one.at
    zero_left z = subst (λ (t : Tree). IsZero t o.one.at) (sym left) (subst (IsZero a) (sym place) z)

  pub beside_by : (y : TreeBit) → ((first ≡ y) × IsZero (tree_of g o.another.cell) o.another.at)
      ⊎ ((second ≡ y) × IsZero (tree_of g o.one.cell) o.one.at) → IsBesideZero x y
  beside_by y (inl (e, z)) = (
    tree_of g o.one.cell,
    tree_of g o.another.cell,
    o.one.at,
    are.0,
    inl
        (e, subst (IsZero (tree_of g o.another.cell)) are.1 z),
  )
  beside_by y (inr (e, z)) = (tree_of g o.one.cell, tree_of g o.another.cell, o.one.at, are.0, inr (same_second ∙ e, z))

  pub beside_is : (y : TreeBit) → IsBesideZero x y → ((first ≡ y) × IsZero (tree_of g o.another.cell) o.another.at)
      ⊎ ((second ≡ y) × IsZero (tree_of g o.one.cell) o.one.at)
  beside_is y (a, b, k, is, inl (e, z)) = inl (first_is a b k is ∙ e, zero_right a b k is z)
  beside_is y (a, b, k, is, inr (e, z)) = inr (second_is a b k is ∙ e, zero_left a b k is z)

-- ---- nodes that hold a code

abbrev nodes : Cells → List (Option Node) → List TreeBit
nodes g held = map (option_map (bit_of g)) held

pub held_bit : (g : Cells) (held : List (Option Node)) (i : ℕ) (x : Option Node) → slice_get held i ≡ Some x
    → slice_get (nodes g held) i ≡ Some (option_map (bit_of g) x)
held_bit g [] i x e = cc
held_bit g (n ∷ ns) zero x e = let f : n ≡ x = cc in ap (λ (o : Option Node). Some (option_map (bit_of g) o)) f
held_bit g (n ∷ ns) (suc i) x e = held_bit g ns i x e

pub bit_held : (g : Cells) → IsPlain g → (held : List (Option Node)) (i : ℕ) (x : Option Node)
    → ((n : Option Node) → Contains held n → IsIn g n) → IsIn g x
    → slice_get (nodes g held) i ≡ Some (option_map (bit_of g) x) → slice_get held i ≡ Some x
bit_held g plain [] i x within is e = cc
bit_held g plain (n ∷ ns) zero x within is e =
    ap Some (same_origins g plain n x (within n (here n ns)) is (let f : option_map (bit_of g) n ≡ option_map (bit_of g) x = cc in f))
bit_held g plain (n ∷ ns) (suc i) x within is e = bit_held g plain ns i x (λ m k. within m (later n ns m k)) is e
