-- What the word of a cell is, by the cell that it comes from.
use Rattle.std.proofs.Common.{◌≡◌, ◌∙◌, sym, ap, ap₂, refl, subst, inl, inr, ◌⊎◌, arith, ℕ, ◌-◌, ◌<◌, ◌≤◌, length, Option, Some, None, option_map}
use Rattle.cell_graph.specs.declared.cell.Cell.TheVariants.{Var, Add, Xor, Mux}
use Rattle.cell_graph.specs.declared.cell.CellId.{CellId}
use Rattle.cell_graph.specs.declared.cell.Node.{Node}
use Rattle.cell_graph.specs.Tree as tree
use Rattle.cell_graph.specs.Tree.{Tree, width}
use Rattle.cell_graph.specs.Cells.{Cells, cell_at, cell_width, signal_width}
use Rattle.cell_graph.specs.Origin.{TreeBit, origin}
use Rattle.cell_graph.specs.Unfolded.{unfolded, trees, tree_of, IsCellOf, IsNodeOf, bit_of}
use Rattle.cell_graph.proofs.Trees.{width-tree_of}
use Rattle.cdc_model.specs.Word.{cells, origins, own_word, IsStepOfOne}
use Rattle.gray_pointer.specs.declared.word.Sides.{Sides}
use Rattle.gray_pointer.specs.Words.{IsPlain, word_of, HasWord, IsIn, IsWhole, IsChoice, IsPlus, AreSides, IsExclusive}
use Rattle.gray_pointer.proofs.Bits.{own_bit, each_own, own_each, same_tree, same_place, cells_tell}
use Rattle.gray_pointer.proofs.Trees.{same_trees, same_bits, tree_there, is_cell, is_var, is_add, is_xor, is_mux}

-- each bit of a word is one of the graph
pub word_node : (g : Cells) (id : CellId) (w i : ℕ) → HasWord g id w → i < w → IsNodeOf g (record { cell = id; at = i })
word_node g id w i has l = (has.0, let k = has.2 in omega arith)

-- a bit that is there is in the graph
pub in_graph : (g : Cells) (o : Option Node) → ((n : Node) → o ≡ Some n → IsNodeOf g n) → IsIn g o
in_graph g None h = tt
in_graph g (Some n) h = h n refl

-- bits that are there, or none, are equal where they are in the trees
pub same_origins : (g : Cells) → IsPlain g → (o p : Option Node) → IsIn g o → IsIn g p → option_map (bit_of g) o ≡ option_map (bit_of g) p → o ≡ p
same_origins g plain None None h k e = refl
same_origins g plain None (Some n) h k e = cc
same_origins g plain (Some m) None h k e = cc
same_origins g plain (Some m) (Some n) h k e = ap Some (same_bits g plain m n h k (let f : bit_of g m ≡ bit_of g n = cc in f))

module _ (g : Cells) (plain : IsPlain g) (id : CellId) (w : ℕ) (has : HasWord g id w) where
  -- ---- the whole

  pub no_first : origin (tree_of g id) 0 ≡ None → IsWhole g id w None
  no_first e t f = let a : origin (tree_of g id) 0 ≡ Some (t, 0) = each_own (tree_of g id) t w f 0 (let k = has.1 in omega arith) in cc

  pub no_whole : (m : Node) → origin (tree_of g id) 0 ≡ Some (bit_of g m) → IsNodeOf g m → (i : ℕ) → i < w → (o : Option Node) → origin (tree_of g id) i ≡ option_map (bit_of g) o
      → IsIn g o → (o ≡ Some (record { cell = m.cell; at = i }) → ⊥) → IsWhole g id w None
  no_whole m e is i l None f within none t k = let b : origin (tree_of g id) i ≡ Some (t, i) = each_own (tree_of g id) t w k i l in cc
  no_whole m e is i l (Some n) f within none t k =
      let a : origin (tree_of g id) 0 ≡ Some (t, 0) = each_own (tree_of g id) t w k 0 (let p = has.1 in omega arith) in
      let b : origin (tree_of g id) i ≡ Some (t, i) = each_own (tree_of g id) t w k i l in
      let c : tree_of g m.cell ≡ t = same_tree (tree_of g m.cell) t m.at 0 (sym e ∙ a) in
      let d : tree_of g n.cell ≡ t = same_tree (tree_of g n.cell) t n.at i (sym f ∙ b) in
      let at : n.at ≡ i = same_place (tree_of g n.cell) t n.at i (sym f ∙ b) in
      let same : n.cell ≡ m.cell = same_trees g plain n.cell m.cell within.0 is.0 (d ∙ sym c) in
      none (ap₂ (λ (c : CellId) (a : ℕ). let x : Node = record { cell = c; at = a } in Some x) same at)

  pub whole_found : (whole : CellId) → whole.0 < length g.cells → whole.0 ≤ id.0
      → ((i : ℕ) → i < w → (origin (tree_of g id) i ≡ Some (tree_of g whole, i)) × (i < cell_width g whole)) → IsWhole g id w (Some whole)
  whole_found whole l le each = (
    own_each (tree_of g id) (tree_of g whole) w (λ j m. (each j m).0),
    (l, has.1, let k = has.1 in let last = (each (w - 1) (omega arith)).1 in omega arith),
    le,
  )

  -- ---- choices

  pub no_choice : IsWhole g id w None → IsChoice g id w None
  no_choice h c x y e = h (tree.Mux c x y) e

  module _ (whole : CellId) (h : IsWhole g id w (Some whole)) where
    is_tree : (t : Tree) → word_of g id w ≡ cells t 0 w → tree_of g whole ≡ t
    is_tree t e = cells_tell (tree_of g whole) t w has.1 (sym h.0 ∙ e)

    there : tree_of g whole ≡ unfolded g.signals (trees g) (cell_at g whole)
    there = tree_there g plain.well whole h.1.0

    pub other_choice : ((c x y : CellId) → cell_at g whole ≡ Mux c x y → ⊥) → IsChoice g id w None
    other_choice none c x y e = let m = is_mux g plain.well whole h.1.0 c x y (is_tree (tree.Mux c x y) e) in none m.0 m.1 m.2 m.3

    module _ (c x y : CellId) (m : cell_at g whole ≡ Mux c x y) where
      mux : tree_of g whole ≡ tree.Mux (tree_of g c) (tree_of g x) (tree_of g y)
      mux = there ∙ ap (unfolded g.signals (trees g)) m

      parts : IsCellOf g whole.0 (Mux c x y)
      parts = subst (IsCellOf g whole.0) m (is_cell g plain.well whole h.1.0)

      wide : cell_width g whole ≡ cell_width g x
      wide = width-tree_of g whole ∙ ap width mux ∙ sym (width-tree_of g x)

      pub cond_node : IsNodeOf g (record { cell = c; at = 0 })
      cond_node = let p = parts in let a = p.0 in let b = p.1 in let l = h.1.0 in ((omega arith), (omega arith))

      pub choice_found : (o : Option Node) → origin (tree_of g c) 0 ≡ option_map (bit_of g) o → IsIn g o
          → IsChoice g id w (Some (record { cond = o; yes = x; other = y }))
      choice_found o e within =
          let p = parts in let a = p.2.0 in let b = p.2.1 in let d = p.2.2 in let l = h.1.0 in let u = h.1.1 in let v = h.1.2 in let z = wide in let q = h.2 in (
            (tree_of g c, h.0 ∙ ap (λ t. cells t 0 w) mux, e),
            within,
            ((omega arith), u, (omega arith)),
            ((omega arith), u, (omega arith)),
            (omega arith),
            (omega arith),
          )

    -- ---- own words and plus words

    pub own_cell : (sig : ℕ) → signal_width g.signals sig ≡ w → cell_at g whole ≡ Var sig → word_of g id w ≡ own_word sig w
    own_cell sig s m = h.0 ∙ ap (λ t. cells t 0 w) (there ∙ ap (unfolded g.signals (trees g)) m ∙ ap (tree.Var sig) s)

    pub cell_own : (sig : ℕ) → word_of g id w ≡ own_word sig w → cell_at g whole ≡ Var sig
    cell_own sig e = is_var g plain.well whole h.1.0 sig w (is_tree (tree.Var sig w) e)

    pub no_plus : (sig : ℕ) → ((a b : CellId) → cell_at g whole ≡ Add a b → ⊥) → IsPlus sig w (word_of g id w) → ⊥
    no_plus sig none p = let m = is_add g plain.well whole h.1.0 p.0 p.1 (is_tree (tree.Add p.0 p.1) p.2) in none m.0 m.1 m.2

    module _ (a b : CellId) (m : cell_at g whole ≡ Add a b) where
      add : tree_of g whole ≡ tree.Add (tree_of g a) (tree_of g b)
      add = there ∙ ap (unfolded g.signals (trees g)) m

      add_parts : IsCellOf g whole.0 (Add a b)
      add_parts = subst (IsCellOf g whole.0) m (is_cell g plain.well whole h.1.0)

      add_wide : cell_width g whole ≡ cell_width g a
      add_wide = width-tree_of g whole ∙ ap width add ∙ sym (width-tree_of g a)

      pub one_word : HasWord g a w
      one_word = let p = add_parts in let i = p.0 in let l = h.1.0 in let v = h.1.2 in let z = add_wide in ((omega arith), has.1, (omega arith))

      pub another_word : HasWord g b w
      another_word = let p = add_parts in let i = p.1 in let j = p.2 in let l = h.1.0 in let v = h.1.2 in let z = add_wide in ((omega arith), has.1, (omega arith))

      pub plus_left : (sig : ℕ) → word_of g a w ≡ own_word sig w → IsStepOfOne (tree_of g b) w → IsPlus sig w (word_of g id w)
      plus_left sig o s = (tree_of g a, tree_of g b, h.0 ∙ ap (λ t. cells t 0 w) add, inl (o, s))

      pub plus_right : (sig : ℕ) → word_of g b w ≡ own_word sig w → IsStepOfOne (tree_of g a) w → IsPlus sig w (word_of g id w)
      plus_right sig o s = (tree_of g a, tree_of g b, h.0 ∙ ap (λ t. cells t 0 w) add, inr (o, s))

      pub plus_parts : (sig : ℕ) → IsPlus sig w (word_of g id w)
          → ((word_of g a w ≡ own_word sig w) × IsStepOfOne (tree_of g b) w) ⊎ ((word_of g b w ≡ own_word sig w) × IsStepOfOne (tree_of g a) w)
      plus_parts sig (p, q, e, k) =
          let s : tree.Add (tree_of g a) (tree_of g b) ≡ tree.Add p q = sym add ∙ is_tree (tree.Add p q) e in
          let u : p ≡ tree_of g a = cc in
          let v : q ≡ tree_of g b = cc in
          subst (λ (t : Tree). ((word_of g a w ≡ own_word sig w) × IsStepOfOne t w) ⊎ ((origins t 0 w ≡ own_word sig w) × IsStepOfOne (tree_of g a) w)) v
          (subst (λ (t : Tree). ((origins t 0 w ≡ own_word sig w) × IsStepOfOne q w) ⊎ ((origins q 0 w ≡ own_word sig w) × IsStepOfOne t w)) u k)

-- ---- the sides of an exclusive or

module _ (g : Cells) (plain : IsPlain g) where
  pub no_sides : (bit : TreeBit) → bit ≡ None → AreSides g bit None
  no_sides bit e a b k f = cc

  module _ (bit : TreeBit) (m : Node) (e : bit ≡ Some (bit_of g m)) (is : IsNodeOf g m) where
    pub other_sides : ((a b : CellId) → cell_at g m.cell ≡ Xor a b → ⊥) → AreSides g bit None
    other_sides none a b k f =
        let t : tree_of g m.cell ≡ tree.Xor a b = same_tree (tree_of g m.cell) (tree.Xor a b) m.at k (sym e ∙ f) in
        let x = is_xor g plain.well m.cell is.0 a b t in none x.0 x.1 x.2

    pub sides_found : (a b : CellId) → cell_at g m.cell ≡ Xor a b
        → AreSides g bit (Some (record { one = record { cell = a; at = m.at }; another = record { cell = b; at = m.at } }))
    sides_found a b x =
        let t : tree_of g m.cell ≡ tree.Xor (tree_of g a) (tree_of g b) = tree_there g plain.well m.cell is.0 ∙ ap (unfolded g.signals (trees g)) x in
        let p = subst (IsCellOf g m.cell.0) x (is_cell g plain.well m.cell is.0) in
        let u = p.0 in let v = p.1 in let z = p.2 in let l = is.0 in let k = is.1 in
        let y : cell_width g m.cell ≡ cell_width g a = width-tree_of g m.cell ∙ ap width t ∙ sym (width-tree_of g a) in (
          e ∙ ap (λ (s : Tree). Some (s, m.at)) t,
          refl,
          ((omega arith), (omega arith)),
          ((omega arith), (omega arith)),
        )

  pub exclusive_found : (bit : TreeBit) (s : Sides) → AreSides g bit (Some s) → (o p : Option Node)
      → origin (tree_of g s.one.cell) s.one.at ≡ option_map (bit_of g) o → origin (tree_of g s.another.cell) s.another.at ≡ option_map (bit_of g) p → IsIn g o → IsIn g p
      → IsExclusive g bit (Some (record { one = o; another = p }))
  exclusive_found bit s h o p e f within beside = (
    (tree_of g s.one.cell, tree_of g s.another.cell, s.one.at, h.0, e, ap (origin (tree_of g s.another.cell)) (sym h.1) ∙ f),
    within,
    beside,
  )

-- ---- own bits

module _ (g : Cells) (plain : IsPlain g) (node : Node) (is : IsNodeOf g node) (sig w : ℕ) where
  pub signal_bit : signal_width g.signals sig ≡ w → (i : ℕ) → node.at ≡ i → cell_at g node.cell ≡ Var sig → own_bit (tree.Var sig w) i ≡ Some (bit_of g node)
  signal_bit wide i at m =
      let t : tree_of g node.cell ≡ tree.Var sig w = tree_there g plain.well node.cell is.0 ∙ ap (unfolded g.signals (trees g)) m ∙ ap (tree.Var sig) wide in
      sym (ap₂ own_bit t at)

  pub bit_signal : (i : ℕ) → own_bit (tree.Var sig w) i ≡ Some (bit_of g node) → cell_at g node.cell ≡ Var sig
  bit_signal i e = is_var g plain.well node.cell is.0 sig w (sym (same_tree (tree.Var sig w) (tree_of g node.cell) i node.at e))
