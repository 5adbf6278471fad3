-- Cells that ascend and have their operands among them get the values of their trees.
use Rattle.std.proofs.Common.{◌≡◌, ◌≢◌, ◌∙◌, ℕ, zero, suc, ◌+◌, ◌-◌, ◌*◌, ◌/◌, ◌%◌, ◌^◌, ◌<◌, ◌≤◌, ◌==◌, cond, nat_lt, Bool, true, false, List, [], ◌∷◌, length, map, set, get_or, Some, slice_get, inl, inr, refl, sym, ap, ap₂, subst, arith, ltb-true, ltb-false, get_or-set_same, get_or-set_other}
use Rattle.std.specs.List.{Contains}
use Rattle.std.specs.Prelude.{bit_and, bit_or, bit_xor, unwrap_or}
use Rattle.cell_graph.specs.declared.cell.Cell.{Cell}
use Rattle.cell_graph.specs.declared.cell.Cell.TheVariants.{Var, Const, Not, And, Or, Xor, Add, Sub, Eq, Lt, Shl, Shr, Mux, Concat, Slice, Extend, Reduce}
use Rattle.cell_graph.specs.declared.cell.CellId.{CellId}
use Rattle.cell_graph.specs.Below.{IsOperand}
use Rattle.cell_graph.specs.Cells.{Cells, cell_at, cell_width}
use Rattle.cell_graph.specs.Tree as tree
use Rattle.cell_graph.specs.Tree.{Tree}
use Rattle.cell_graph.specs.Unfolded.{IsWellFormed, trees, tree_of}
use Rattle.cell_graph.specs.Values.{AreWordsOf, cell_word, reading_of, reduced_word, tree_value, values_of, word_at}
use Rattle.cell_graph.proofs.CellValues.{cell_word-is, length-trees}
use Rattle.cell_graph.proofs.Cones.{cell-there, contains_get, get_contains, operand-before}
use Rattle.settling_sim.proofs.Values.{map-get}
use Rattle.settling_sim.proofs.Words.{word-set_same, word-set_other}
use Rattle.campaign.specs.Room.{IsConeOf}

-- values that agree at a cell's operands give it one value
cell-same : (g : Cells) (words vs us : List ℕ) (w : ℕ) (c : Cell) → ((a : CellId) → IsOperand c a → word_at vs a.0 ≡ word_at us a.0) → cell_word g words vs w c ≡ cell_word g words us w c
cell-same g words vs us w (Var sig) h = refl
cell-same g words vs us w (Const width value) h = refl
cell-same g words vs us w (Not a) h = ap (λ m. (2 ^ 64 - 1 - m) % 2 ^ w) (h a refl)
cell-same g words vs us w (And a b) h = ap₂ bit_and (h a (inl refl)) (h b (inr refl))
cell-same g words vs us w (Or a b) h = ap₂ bit_or (h a (inl refl)) (h b (inr refl))
cell-same g words vs us w (Xor a b) h = ap₂ bit_xor (h a (inl refl)) (h b (inr refl))
cell-same g words vs us w (Add a b) h = ap₂ (λ m n. (m + n) % 2 ^ 64 % 2 ^ w) (h a (inl refl)) (h b (inr refl))
cell-same g words vs us w (Sub a b) h = ap₂ (λ m n. (m + (2 ^ 64 - n)) % 2 ^ 64 % 2 ^ w) (h a (inl refl)) (h b (inr refl))
cell-same g words vs us w (Eq a b) h = ap₂ (λ (m n : ℕ). cond (m == n) 1 0) (h a (inl refl)) (h b (inr refl))
cell-same g words vs us w (Lt a b) h = ap₂ (λ (m n : ℕ). cond (nat_lt m n) 1 0) (h a (inl refl)) (h b (inr refl))
cell-same g words vs us w (Shl a by) h = ap₂ (λ m n. m * 2 ^ n % 2 ^ 64 % 2 ^ w) (h a (inl refl)) (h by (inr refl))
cell-same g words vs us w (Shr a by) h = ap₂ (λ m n. m / 2 ^ n) (h a (inl refl)) (h by (inr refl))
cell-same g words vs us w (Mux c x y) h =
    ap (λ (n : ℕ). cond (n == 0) (word_at vs y.0) (word_at vs x.0)) (h c (inl refl)) ∙ ap₂ (λ m n. cond (word_at us c.0 == 0) m n) (h y (inr (inr refl))) (h x (inr (inl refl)))
cell-same g words vs us w (Concat high low) h = ap₂ (λ m n. bit_or (m * 2 ^ cell_width g low % 2 ^ 64) n) (h high (inl refl)) (h low (inr refl))
cell-same g words vs us w (Slice a at width) h = ap (λ m. m / 2 ^ at % 2 ^ w) (h a refl)
cell-same g words vs us w (Extend a width) h = h a refl
cell-same g words vs us w (Reduce kind a) h = ap (reduced_word kind (cell_width g a)) (h a refl)

module _ (g : Cells) (well : IsWellFormed g) (words : List ℕ) (fit : AreWordsOf g.signals words) where
  abbrev all : List ℕ
  all = values_of g words

  -- among the values of all cells each cell has its own
  value-is : (id : CellId) → id.0 < length g.cells → cell_word g words all (cell_width g id) (cell_at g id) ≡ word_at all id.0
  value-is id lt =
      let is : (a : CellId) → a.0 < length g.cells → word_at all a.0 ≡ tree_value (reading_of words) (tree_of g a)
      = λ a l. map-get (tree_value (reading_of words)) (trees g) a.0 (tree.Const 1 0) (let e = length-trees g in omega (arith, e, l)) in
      cell_word-is g well words all fit id.0 (λ a l. is a (omega (arith, l, lt))) id (cell_at g id) refl (cell-there g id lt) ∙ sym (is id lt)

  module _ (cells : List CellId) (top : CellId) (cone : IsConeOf g top cells) where
    -- cells before n have their values
    abbrev pub AreDone : ℕ → List ℕ → Type 0
    AreDone n vs = (k : ℕ) (c : CellId) → k < n → slice_get cells k ≡ Some c → word_at vs c.0 ≡ word_at all c.0

    -- what stands before a cell in the graph stands before it in the list
    place-before : (n k : ℕ) (id a : CellId) → slice_get cells n ≡ Some id → slice_get cells k ≡ Some a → a.0 < id.0 → k < n
    place-before n k id a at there less = go (nat_lt k n) refl (nat_lt n k) refl
      where
        go : (t : Bool) → nat_lt k n ≡ t → (u : Bool) → nat_lt n k ≡ u → k < n
        go true e u f = ltb-true k n e
        go false e true f = absurd (let l = cone.ascending n k id a (ltb-true n k f) at there in omega (arith, l, less))
        go false e false f =
            let p = ltb-false k n e in
            let q = ltb-false n k f in
            let same : k ≡ n = omega (arith, p, q) in
            let s = sym there ∙ ap (slice_get cells) same ∙ at in
            let one : a ≡ id = cc in
            absurd (let o = ap (λ (c : CellId). c.0) one in omega (arith, o, less))

    -- one more cell has its value
    pub one-cell : (vs : List ℕ) (n : ℕ) (id : CellId) (v : ℕ) → length vs ≡ length g.cells → AreDone n vs → slice_get cells n ≡ Some id
        → v ≡ cell_word g words vs (cell_width g id) (cell_at g id) → AreDone (n + 1) (set vs id.0 v)
    one-cell vs n id v len done at is k c lt there = go (nat_lt k n) refl
      where
        within : id.0 < length g.cells
        within = cone.within id (contains_get cells n id at)

        go : (t : Bool) → nat_lt k n ≡ t → word_at (set vs id.0 v) c.0 ≡ word_at all c.0
        go true e =
            let l = ltb-true k n e in
            let less = cone.ascending k n c id l there at in
            word-set_other vs id.0 c.0 v (λ s. omega (arith, s, less)) ∙ done k c l there
        go false e =
            let p = ltb-false k n e in
            let same : n ≡ k = omega (arith, p, lt) in
            let s = sym at ∙ ap (slice_get cells) same ∙ there in
            let one : id ≡ c = cc in
            subst (λ (d : CellId). word_at (set vs id.0 v) d.0 ≡ word_at all d.0) one
            (word-set_same vs id.0 v (omega (arith, len, within))
            ∙ is
            ∙ cell-same g words vs all (cell_width g id) (cell_at g id) (λ a op.
            let less = operand-before g id.0 (cell_at g id) (well.cells id.0 (cell_at g id) (cell-there g id within)) a op in
            let among = get_contains cells a (cone.closed id a (contains_get cells n id at) op) in
            done among.0 a (place-before n among.0 id a at among.2 less) among.2)
            ∙ value-is id within)

    -- and at the end the top one has its own
    pub top-done : (vs : List ℕ) (n : ℕ) → length cells ≤ n → AreDone n vs → word_at vs top.0 ≡ word_at all top.0
    top-done vs n le done =
        let at = get_contains cells top cone.has_top in
        done at.0 top (let l = at.1 in omega (arith, l, le)) at.2
