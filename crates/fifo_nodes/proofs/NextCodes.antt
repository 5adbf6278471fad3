-- Cells whose bits are a next count.
use Rattle.std.proofs.Common.{◌≡◌, ◌≢◌, ◌∙◌, sym, ap, ap₂, refl, subst, inl, inr, ◌⊎◌, arith, ℕ, zero, suc, ◌+◌, ◌-◌, ◌<◌, ◌≤◌, length, Option}
use Rattle.std.proofs.Common.{Some, None, option_map, List, slice_get, Contains}
use Rattle.cdc_model.proofs.Ascending.{here, later, parts, nothing_in}
use Rattle.cell_graph.specs.declared.cell.Cell.TheVariants as cell
use Rattle.cell_graph.specs.declared.cell.CellId.{CellId}
use Rattle.cell_graph.specs.declared.cell.Node.{Node}
use Rattle.cell_graph.specs.Cells.{Cells, cell_at, cell_width}
use Rattle.cell_graph.specs.Origin.{TreeBit, origin}
use Rattle.cell_graph.specs.Tree.{Tree, Var, Xor, Add, Mux, width}
use Rattle.cell_graph.specs.Unfolded.{bit_of, tree_of, trees, unfolded}
use Rattle.cell_graph.proofs.Trees.{width-tree_of}
use Rattle.cdc_model.specs.Word.{cells, origins, IsXorOf, IsTopOf}
use Rattle.fifo_terms.specs.Codes as rules
use Rattle.fifo_terms.specs.Codes.{FitsGray, IsBit}
use Rattle.fifo_terms.specs.Counts.{CountsUnder}
use Rattle.fifo_terms.specs.Terms.{Term, HaveOneSet}
use Rattle.gray_pointer.proofs.Bits.{cells_tell, same_tree, same_place, first_or_later}
use Rattle.gray_pointer.proofs.Trees.{is_add, is_mux, tree_there}
use Rattle.gray_pointer.specs.Words.{word_of, IsPlain}
use Rattle.fifo_nodes.specs.declared.codes.Operands.{Operands}
use Rattle.fifo_nodes.specs.declared.term.Term.{Term as Found}
use Rattle.fifo_nodes.specs.Codes.{AreOperands, FitsBy, FitsNext, IsNextCount, IsSumOrChoice}
use Rattle.fifo_nodes.specs.Counts.{IsCounted}
use Rattle.fifo_nodes.specs.Terms.{terms_of, AreTerms}
use Rattle.fifo_nodes.proofs.CodeWords.{fits_pair, fits_top, fits_within, sum_itself, choice_itself}
use Rattle.fifo_nodes.proofs.Counting.{IsSumOf, IsChoiceOf, count_cases}

-- ---- the bits of a tree

cell_among : (t : Tree) (i n j : ℕ) → i ≤ j → j < i + n → Contains (cells t i n) (Some (t, j))
cell_among t i zero j l m = absurd (omega arith)
cell_among t i (suc n) j l m = elim (first_or_later i j l) [
  | inl e ↦ subst (λ (k : ℕ). Contains (cells t i (suc n)) (Some (t, k))) e (here (Some (t, i)) (cells t (suc i) n))
  | inr k ↦ later (Some (t, i)) (cells t (suc i) n) (Some (t, j)) (cell_among t (suc i) n j k (omega arith))
]

among_bits : (t : Tree) (i n : ℕ) → i + n ≤ width t → (x : TreeBit) → Contains (cells t i n) x → IsBit x
among_bits t i zero l x h = absurd (nothing_in x h)
among_bits t i (suc n) l x h = elim (parts (Some (t, i)) (cells t (suc i) n) x h) [
  | inl e ↦ subst IsBit e (let k : i < width t = omega arith in k)
  | inr k ↦ among_bits t (suc i) n (omega arith) x k
]

pub bits_of : (t : Tree) (w : ℕ) → w ≤ width t → (x : TreeBit) → Contains (cells t 0 w) x → IsBit x
bits_of t w l = among_bits t 0 w (omega arith)

pub wide_enough : (t : Tree) (w : ℕ) → 1 ≤ w → ((x : TreeBit) → Contains (cells t 0 w) x → IsBit x) → w ≤ width t
wide_enough t w l h = let k : w - 1 < width t = h (Some (t, w - 1)) (cell_among t 0 w (w - 1) (omega arith) (omega arith)) in omega arith

-- ---- words that count are those of sums and of choices

pub counting_tree : (b w : ℕ) (n : List TreeBit) (us : List Term) → CountsUnder b w n us → (t : Tree) × (n ≡ cells t 0 w) × IsSumOrChoice t
counting_tree b w n us k = go (count_cases b w n us k)
  where
    go : IsSumOf b w n us ⊎ IsChoiceOf b w n us → (t : Tree) × (n ≡ cells t 0 w) × IsSumOrChoice t
    go (inl (x, y, e, h)) = (Add x y, e, inl (x, y, refl))
    go (inr (c, x, y, vs, e, h)) = (Mux c x y, e, inr (c, x, y, refl))

pub counts_is : (b w : ℕ) → 1 ≤ w → (t : Tree) (us : List Term) → CountsUnder b w (cells t 0 w) us → IsSumOrChoice t
counts_is b w l t us k = let (u, e, h) = counting_tree b w (cells t 0 w) us k in subst IsSumOrChoice (sym (cells_tell t u w l e)) h

pub itself : (t : Tree) (w : ℕ) → IsSumOrChoice t → origins t 0 w ≡ cells t 0 w
itself t w (inl (x, y, e)) = ap (λ (u : Tree). origins u 0 w) e ∙ sum_itself x y w ∙ ap (λ (u : Tree). cells u 0 w) (sym e)
itself t w (inr (c, x, y, e)) = ap (λ (u : Tree). origins u 0 w) e ∙ choice_itself c x y w ∙ ap (λ (u : Tree). cells u 0 w) (sym e)

-- ---- codes by their moments

pub count_within : (b w : ℕ) (m : rules.Moment) (n : List TreeBit) (i : ℕ) (x : TreeBit) → rules.IsCountAt b w m n → FitsGray n i x → i < w
count_within b w rules.Now n i x e f = fits_within (Var b w) x w i (subst (λ l. FitsGray l i x) e f)
count_within b w (rules.Next ts) n i x counts f = let (t, e, h) = counting_tree b w n counts.0 counts.1 in
    fits_within t x w i (subst (λ l. FitsGray l i x) e f)

module _ (k : rules.Code) (i : ℕ) (x : TreeBit) where
  abbrev FitsAt : rules.Moment → Type 0
  FitsAt m = (n : List TreeBit) × rules.IsCountAt k.b k.w m n × FitsGray n i x

  pub no_bit_above : k.w ≤ i → (slice_get k.held i ≡ Some x → ⊥) → rules.IsCodeBit k i x → ⊥
  no_bit_above l none (inl e) = none e
  no_bit_above l none (inr (n, is, f)) = let h = count_within k.b k.w k.moment n i x is f in omega arith

  pub next_bit : (ts : List Term) → k.moment ≡ rules.Next ts → FitsNext k.b k.w ts i x → rules.IsCodeBit k i x
  next_bit ts e h = inr (subst FitsAt (sym e) h)

  pub bit_next : (ts : List Term) → k.moment ≡ rules.Next ts → (slice_get k.held i ≡ Some x → ⊥) → rules.IsCodeBit k i x → FitsNext k.b k.w ts i x
  bit_next ts e none (inl h) = absurd (none h)
  bit_next ts e none (inr h) = subst FitsAt e h

-- ---- terms that were found, in place of those that they are

pub set_found : (g : Cells) (ts us : List Term) (found : List Found) → AreTerms g us found → HaveOneSet ts us → HaveOneSet ts (terms_of g found)
set_found g ts us found are h = (
  λ t i. let (u, k, e) = h.0 t i in (u, are.all u k, e),
  λ t i. h.1 t (are.only t i),
)

pub found_set : (g : Cells) (ts us : List Term) (found : List Found) → AreTerms g us found → HaveOneSet ts (terms_of g found) → HaveOneSet ts us
found_set g ts us found are h = (
  λ t i. let (u, k, e) = h.0 t i in (u, are.only u k, e),
  λ t i. h.1 t (are.all t i),
)

-- ---- a cell's next count

module _ (g : Cells) (b w : ℕ) (wide : 2 ≤ w) (ts : List Term) (id : CellId) where
  pub next_wide : IsNextCount b w ts (tree_of g id) → w ≤ cell_width g id
  next_wide (us, k, one, bits) = let l = wide_enough (tree_of g id) w (omega arith) bits in let e = width-tree_of g id in omega arith

  pub next_is : IsNextCount b w ts (tree_of g id) → IsSumOrChoice (tree_of g id)
  next_is (us, k, one, bits) = counts_is b w (omega arith) (tree_of g id) us k

  module _ (is : IsSumOrChoice (tree_of g id)) where
    same : word_of g id w ≡ cells (tree_of g id) 0 w
    same = itself (tree_of g id) w is

    pub counted_not : IsCounted g b w (word_of g id w) None → IsNextCount b w ts (tree_of g id) → ⊥
    counted_not none (us, k, one, bits) = none us (subst (λ m. CountsUnder b w m us) (sym same) k)

    module _ (found : List Found) (counted : IsCounted g b w (word_of g id w) (Some found)) where
      pub counted_next : w ≤ cell_width g id → HaveOneSet ts (terms_of g found) → IsNextCount b w ts (tree_of g id)
      counted_next l h = (
        counted.0,
        subst (λ m. CountsUnder b w m counted.0) same counted.1,
        found_set g ts counted.0 found counted.2 h,
        bits_of (tree_of g id) w (let e = width-tree_of g id in omega arith),
      )

      pub next_counted : IsNextCount b w ts (tree_of g id) → HaveOneSet ts (terms_of g found)
      next_counted (us, k, one, bits) =
          set_found g ts counted.0 found counted.2 (subst (HaveOneSet ts) (counted.3 us (subst (λ m. CountsUnder b w m us) (sym same) k)) one)

-- ---- the cells that a bit may fit by

module _ (g : Cells) (b w : ℕ) (ts : List Term) (i : ℕ) (x : TreeBit) where
  pub fits_some : (o : Option Node) → FitsBy g b w ts i x o → FitsNext b w ts i x
  fits_some None h = absurd h
  fits_some (Some n) h = (cells (tree_of g n.cell) 0 w, h.0, h.1)

  by_tree : (t : Tree) (j : ℕ) (o : Option Node) → option_map (bit_of g) o ≡ Some (t, j) → IsNextCount b w ts t → FitsGray (cells t 0 w) i x
      → FitsBy g b w ts i x o
  by_tree t j None e k f = cc
  by_tree t j (Some n) e k f =
      let same : t ≡ tree_of g n.cell = sym (same_tree (tree_of g n.cell) t n.at j e) in
      (subst (IsNextCount b w ts) same k, subst (λ (u : Tree). FitsGray (cells u 0 w) i x) same f)

  -- the origins of its operands, if it has some
  module _ (node : Option Node) (here : x ≡ option_map (bit_of g) node) (wide : 1 ≤ w) (low : i < w) where
    -- the bit of the tree that the node is, or one of its operands
    abbrev pub IsMet : Tree → TreeBit → Type 0
    IsMet t y = (j : ℕ) × (y ≡ Some (t, j))

    abbrev pub IsOperand : Tree → Type 0
    IsOperand t = (p q : Tree) × (k : ℕ) × (x ≡ Some (Xor p q, k)) × (IsMet t (origin p k) ⊎ IsMet t (origin q k))

    met_in : (t : Tree) → FitsGray (cells t 0 w) i x → IsMet t x ⊎ IsOperand t
    met_in t f = go (first_or_later (suc i) w (omega arith))
      where
        pair : IsXorOf x (Some (t, i)) (Some (t, suc i)) → IsMet t x ⊎ IsOperand t
        pair (p, q, k, e, inl (a, b)) = inr (p, q, k, e, inl (i, a))
        pair (p, q, k, e, inr (a, b)) = inr (p, q, k, e, inr (i, b))

        top : IsTopOf x (Some (t, i)) → IsMet t x ⊎ IsOperand t
        top (inl e) = inl (i, e)
        top (inr (p, q, k, e, inl (a, z))) = inr (p, q, k, e, inl (i, a))
        top (inr (p, q, k, e, inr (a, z))) = inr (p, q, k, e, inr (i, a))

        go : (suc i ≡ w) ⊎ (suc (suc i) ≤ w) → IsMet t x ⊎ IsOperand t
        go (inl e) = top ((fits_top t x w i e).0 f)
        go (inr l) = pair ((fits_pair t x w i (omega arith)).0 f)

    by_met : (t : Tree) → IsNextCount b w ts t → FitsGray (cells t 0 w) i x → (y : TreeBit) (o : Option Node) → y ≡ option_map (bit_of g) o
        → IsMet t y → FitsBy g b w ts i x o
    by_met t k f y o e (j, m) = by_tree t j o (sym e ∙ m) k f

    next_met : FitsNext b w ts i x → (t : Tree) × IsNextCount b w ts t × FitsGray (cells t 0 w) i x
    next_met (n, counts, f) =
        let (t, e, h) = counting_tree b w n counts.0 counts.1 in
        (t, subst (rules.IsCountAt b w (rules.Next ts)) e counts, subst (λ m. FitsGray m i x) e f)

    pub fits_alone : AreOperands g x None → FitsNext b w ts i x → FitsBy g b w ts i x node
    fits_alone none h = let (t, k, f) = next_met h in go t k f (met_in t f)
      where
        go : (t : Tree) → IsNextCount b w ts t → FitsGray (cells t 0 w) i x → IsMet t x ⊎ IsOperand t → FitsBy g b w ts i x node
        go t k f (inl m) = by_met t k f x node here m
        go t k f (inr (p, q, j, e, m)) = absurd (none p q j e)

    pub fits_operands : (o : Operands) → AreOperands g x (Some o) → (p q : Option Node)
        → origin (tree_of g o.one.cell) o.one.at ≡ option_map (bit_of g) p → origin (tree_of g o.another.cell) o.another.at ≡ option_map (bit_of g) q
        → FitsNext b w ts i x → FitsBy g b w ts i x node ⊎ (FitsBy g b w ts i x p ⊎ FitsBy g b w ts i x q)
    fits_operands o (is, at, one, another) p q e f h = let (t, k, l) = next_met h in go t k l (met_in t l)
      where
        go : (t : Tree) → IsNextCount b w ts t → FitsGray (cells t 0 w) i x → IsMet t x ⊎ IsOperand t
            → FitsBy g b w ts i x node ⊎ (FitsBy g b w ts i x p ⊎ FitsBy g b w ts i x q)
        go t k l (inl m) = inl (by_met t k l x node here m)
        go t k l (inr (c, d, j, u, m)) =
            let s : Xor (tree_of g o.one.cell) (tree_of g o.another.cell) ≡ Xor c d = same_tree
            (Xor (tree_of g o.one.cell) (tree_of g o.another.cell)) (Xor c d) o.one.at j (sym is ∙ u) in
            let v : o.one.at ≡ j = same_place (Xor (tree_of g o.one.cell) (tree_of g o.another.cell)) (Xor c d) o.one.at j (sym is ∙ u) in
            let a : c ≡ tree_of g o.one.cell = cc in
            let b : d ≡ tree_of g o.another.cell = cc in
            elim m [
              | inl n ↦ inr (inl (by_met t k l (origin c j) p (ap₂ origin a (sym v) ∙ e) n))
              | inr n ↦ inr (inr (by_met t k l (origin d j) q (ap₂ origin b (sym v ∙ sym at) ∙ f) n))
            ]

-- ---- sums and choices by their cells

module _ (g : Cells) (plain : IsPlain g) (id : CellId) (l : id.0 < length g.cells) where
  there : tree_of g id ≡ unfolded g.signals (trees g) (cell_at g id)
  there = tree_there g plain.well id l

  pub sum_cell : (a b : CellId) → cell_at g id ≡ cell.Add a b → IsSumOrChoice (tree_of g id)
  sum_cell a b m = inl (tree_of g a, tree_of g b, there ∙ ap (unfolded g.signals (trees g)) m)

  pub choice_cell : (c a b : CellId) → cell_at g id ≡ cell.Mux c a b → IsSumOrChoice (tree_of g id)
  choice_cell c a b m = inr (tree_of g c, tree_of g a, tree_of g b, there ∙ ap (unfolded g.signals (trees g)) m)

  pub other_cell : ((a b : CellId) → cell_at g id ≢ cell.Add a b) → ((c a b : CellId) → cell_at g id ≢ cell.Mux c a b)
      → IsSumOrChoice (tree_of g id) → ⊥
  other_cell no_sum no_choice (inl (x, y, e)) = let m = is_add g plain.well id l x y e in no_sum m.0 m.1 m.2
  other_cell no_sum no_choice (inr (c, x, y, e)) = let m = is_mux g plain.well id l c x y e in no_choice m.0 m.1 m.2 m.3
