-- Down the first branches of a count word.
use Rattle.std.proofs.Common.{◌≡◌, ◌≢◌, ◌∙◌, sym, ap, refl, subst, inl, inr, ◌⊎◌, arith, ℕ, ◌<◌, ◌≤◌, List, Option, Some, None, option_map}
use Rattle.cell_graph.specs.declared.cell.Cell.TheVariants.{Var, Add, Mux}
use Rattle.cell_graph.specs.declared.cell.CellId.{CellId}
use Rattle.cell_graph.specs.declared.cell.Node.{Node}
use Rattle.cell_graph.specs.Tree as tree
use Rattle.cell_graph.specs.Tree.{Tree, width}
use Rattle.cell_graph.specs.Cells.{Cells, cell_at, cell_width}
use Rattle.cell_graph.specs.Origin.{TreeBit, origin}
use Rattle.cell_graph.specs.Unfolded.{unfolded, trees, tree_of, IsCellOf, IsNodeOf, bit_of}
use Rattle.cell_graph.proofs.Trees.{width-tree_of}
use Rattle.cdc_model.specs.Word.{cells, origins, own_word, IsCount, Own, Plus, Choose}
use Rattle.gray_pointer.specs.Leaves.{CountsItself}
use Rattle.gray_pointer.specs.Words.{IsPlain, IsPlus}
use Rattle.gray_pointer.proofs.Bits.{own_bit, each_own, same_tree, same_place, cells_tell}
use Rattle.gray_pointer.proofs.Counts.{IsChosen, count_cases}
use Rattle.gray_pointer.proofs.Wholes.{bit_signal}
use Rattle.gray_pointer.proofs.Trees.{tree_there, is_cell, is_var, is_add, is_mux}

pub count_cells : (sig w : ℕ) (n : List TreeBit) → IsCount sig w n → (t : Tree) × (n ≡ cells t 0 w)
count_cells sig w n Own = (tree.Var sig w, refl)
count_cells sig w n (Plus a b k) = (tree.Add a b, refl)
count_cells sig w n (Choose c x y h k) = (tree.Mux c x y, refl)

module _ (g : Cells) (plain : IsPlain g) (sig w : ℕ) (l : 1 ≤ w) (node : Node) (is : IsNodeOf g node) (lt : node.at < w) (counts : CountsItself g sig w node.cell) where
  cases : (cells (tree_of g node.cell) 0 w ≡ own_word sig w) ⊎ (IsPlus sig w (cells (tree_of g node.cell) 0 w) ⊎ IsChosen sig w (cells (tree_of g node.cell) 0 w))
  cases = count_cases sig w (cells (tree_of g node.cell) 0 w) counts

  tell : (t : Tree) → cells (tree_of g node.cell) 0 w ≡ cells t 0 w → tree_of g node.cell ≡ t
  tell t e = cells_tell (tree_of g node.cell) t w l e

  -- a multiplexer: the bit of the first branch is that of a count word
  module _ (c x y : CellId) (m : cell_at g node.cell ≡ Mux c x y) where
    mux : tree_of g node.cell ≡ tree.Mux (tree_of g c) (tree_of g x) (tree_of g y)
    mux = tree_there g plain.well node.cell is.0 ∙ ap (unfolded g.signals (trees g)) m

    parts : IsCellOf g node.cell.0 (Mux c x y)
    parts = subst (IsCellOf g node.cell.0) m (is_cell g plain.well node.cell is.0)

    pub branch_lower : x.0 < node.cell.0
    branch_lower = parts.2.0

    pub branch_node : IsNodeOf g (record { cell = x; at = node.at })
    branch_node =
        let p = parts.2.0 in let q = is.0 in let r = is.1 in
        let z : cell_width g node.cell ≡ cell_width g x = width-tree_of g node.cell ∙ ap width mux ∙ sym (width-tree_of g x) in
        ((omega arith), (omega arith))

    branch_counts : IsCount sig w (origins (tree_of g x) 0 w)
    branch_counts = go cases
      where
        go : (cells (tree_of g node.cell) 0 w ≡ own_word sig w) ⊎ (IsPlus sig w (cells (tree_of g node.cell) 0 w) ⊎ IsChosen sig w (cells (tree_of g node.cell) 0 w))
            → IsCount sig w (origins (tree_of g x) 0 w)
        go (inl e) = let f : tree.Mux (tree_of g c) (tree_of g x) (tree_of g y) ≡ tree.Var sig w = sym mux ∙ tell (tree.Var sig w) e in cc
        go (inr (inl (a, b, e, k))) = let f : tree.Mux (tree_of g c) (tree_of g x) (tree_of g y) ≡ tree.Add a b = sym mux ∙ tell (tree.Add a b) e in cc
        go (inr (inr (p, q, r, e, h, k))) =
            let f : tree.Mux (tree_of g c) (tree_of g x) (tree_of g y) ≡ tree.Mux p q r = sym mux ∙ tell (tree.Mux p q r) e in
            let s : q ≡ tree_of g x = cc in
            subst (λ (t : Tree). IsCount sig w (origins t 0 w)) s h

    whole : (t : Tree) × (origins (tree_of g x) 0 w ≡ cells t 0 w)
    whole = count_cells sig w (origins (tree_of g x) 0 w) branch_counts

    branch_bit : origin (tree_of g x) node.at ≡ own_bit whole.0 node.at
    branch_bit = each_own (tree_of g x) whole.0 w whole.1 node.at lt

    pub branch_there : origin (tree_of g x) node.at ≡ None → ⊥
    branch_there e = let f : own_bit whole.0 node.at ≡ None = sym branch_bit ∙ e in cc

    pub branch_at : (n : Node) → origin (tree_of g x) node.at ≡ Some (bit_of g n) → n.at ≡ node.at
    branch_at n e = same_place (tree_of g n.cell) whole.0 n.at node.at (sym e ∙ branch_bit)

    pub branch_itself : (n : Node) → origin (tree_of g x) node.at ≡ Some (bit_of g n) → CountsItself g sig w n.cell
    branch_itself n e =
        subst (λ (t : Tree). IsCount sig w (cells t 0 w)) (sym (same_tree (tree_of g n.cell) whole.0 n.at node.at (sym e ∙ branch_bit)))
        (subst (IsCount sig w) whole.1 branch_counts)

  -- a sum: the bit of one of the operands is the signal's
  module _ (a b : CellId) (m : cell_at g node.cell ≡ Add a b) where
    add : tree_of g node.cell ≡ tree.Add (tree_of g a) (tree_of g b)
    add = tree_there g plain.well node.cell is.0 ∙ ap (unfolded g.signals (trees g)) m

    add_parts : IsCellOf g node.cell.0 (Add a b)
    add_parts = subst (IsCellOf g node.cell.0) m (is_cell g plain.well node.cell is.0)

    wide : cell_width g node.cell ≡ cell_width g a
    wide = width-tree_of g node.cell ∙ ap width add ∙ sym (width-tree_of g a)

    pub one_node : IsNodeOf g (record { cell = a; at = node.at })
    one_node = let p = add_parts.0 in let q = is.0 in let r = is.1 in let z = wide in ((omega arith), (omega arith))

    pub another_node : IsNodeOf g (record { cell = b; at = node.at })
    another_node = let p = add_parts.1 in let q = is.0 in let r = is.1 in let z = wide in let s = add_parts.2 in ((omega arith), (omega arith))

    pub operand_bit : (origin (tree_of g a) node.at ≡ own_bit (tree.Var sig w) node.at) ⊎ (origin (tree_of g b) node.at ≡ own_bit (tree.Var sig w) node.at)
    operand_bit = go cases
      where
        pick : (p q : Tree) → p ≡ tree_of g a → q ≡ tree_of g b → (origins p 0 w ≡ own_word sig w) ⊎ (origins q 0 w ≡ own_word sig w)
            → (origin (tree_of g a) node.at ≡ own_bit (tree.Var sig w) node.at) ⊎ (origin (tree_of g b) node.at ≡ own_bit (tree.Var sig w) node.at)
        pick p q e f (inl h) = inl (ap (λ (t : Tree). origin t node.at) (sym e) ∙ each_own p (tree.Var sig w) w h node.at lt)
        pick p q e f (inr h) = inr (ap (λ (t : Tree). origin t node.at) (sym f) ∙ each_own q (tree.Var sig w) w h node.at lt)

        go : (cells (tree_of g node.cell) 0 w ≡ own_word sig w) ⊎ (IsPlus sig w (cells (tree_of g node.cell) 0 w) ⊎ IsChosen sig w (cells (tree_of g node.cell) 0 w))
            → (origin (tree_of g a) node.at ≡ own_bit (tree.Var sig w) node.at) ⊎ (origin (tree_of g b) node.at ≡ own_bit (tree.Var sig w) node.at)
        go (inl e) = let f : tree.Add (tree_of g a) (tree_of g b) ≡ tree.Var sig w = sym add ∙ tell (tree.Var sig w) e in cc
        go (inr (inl (p, q, e, inl k))) =
            let f : tree.Add (tree_of g a) (tree_of g b) ≡ tree.Add p q = sym add ∙ tell (tree.Add p q) e in
            let s : p ≡ tree_of g a = cc in let t : q ≡ tree_of g b = cc in pick p q s t (inl k.0)
        go (inr (inl (p, q, e, inr k))) =
            let f : tree.Add (tree_of g a) (tree_of g b) ≡ tree.Add p q = sym add ∙ tell (tree.Add p q) e in
            let s : p ≡ tree_of g a = cc in let t : q ≡ tree_of g b = cc in pick p q s t (inr k.0)
        go (inr (inr (p, q, r, e, h, k))) = let f : tree.Add (tree_of g a) (tree_of g b) ≡ tree.Mux p q r = sym add ∙ tell (tree.Mux p q r) e in cc

  -- neither: the signal itself
  pub leaf_var : ((c x y : CellId) → cell_at g node.cell ≢ Mux c x y) → ((a b : CellId) → cell_at g node.cell ≢ Add a b)
      → cell_at g node.cell ≡ Var sig
  leaf_var not_mux not_add = go cases
    where
      go : (cells (tree_of g node.cell) 0 w ≡ own_word sig w) ⊎ (IsPlus sig w (cells (tree_of g node.cell) 0 w) ⊎ IsChosen sig w (cells (tree_of g node.cell) 0 w)) → cell_at g node.cell ≡ Var sig
      go (inl e) = is_var g plain.well node.cell is.0 sig w (tell (tree.Var sig w) e)
      go (inr (inl (p, q, e, k))) = let m = is_add g plain.well node.cell is.0 p q (tell (tree.Add p q) e) in absurd (not_add m.0 m.1 m.2)
      go (inr (inr (p, q, r, e, h, k))) = let m = is_mux g plain.well node.cell is.0 p q r (tell (tree.Mux p q r) e) in absurd (not_mux m.0 m.1 m.2 m.3)

-- the bit that is passed is the signal's
pub passed_signal : (g : Cells) → IsPlain g → (o : Option Node) → ((n : Node) → o ≡ Some n → IsNodeOf g n) → (sig w i : ℕ) → own_bit (tree.Var sig w) i ≡ option_map (bit_of g) o
    → (n : Node) × (o ≡ Some n) × (cell_at g n.cell ≡ Var sig)
passed_signal g plain None within sig w i e = cc
passed_signal g plain (Some n) within sig w i e = (n, refl, bit_signal g plain n (within n refl) sig w i e)
