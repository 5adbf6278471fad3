-- What stands in the tree of a cell stands in that of an operand, or is the cell's own signal; and what that says of marks.
use Rattle.std.proofs.Common.{◌≡◌, ◌∙◌, ◌⊎◌, inl, inr, refl, sym, ap, subst, arith, ℕ, ◌+◌, ◌<◌, ◌||◌, nat_lt, eqb-true, ltb-true, ltb-false, Bool, true, false, Option, Some, List, [], ◌∷◌, ◌++◌, length, slice_get, get_or}
use Rattle.std.proofs.lemmas.Bool.{or_cases}
use Rattle.std.proofs.lemmas.List.{get_or_append_left}
use Rattle.std.proofs.lemmas.Option.{unwrap_or-slice_get}
use Rattle.std.proofs.Math.Seq.{get_or-append_seam}
use Rattle.cdc_base.specs.declared.bit.Bit.{Bit}
use Rattle.cdc_base.specs.declared.signal.Signal.{Signal}
use Rattle.cell_graph.specs.declared.cell.Cell.{Cell}
use Rattle.cell_graph.specs.declared.cell.Cell.TheVariants.{Var, Const, Not, And, Or, Xor, Add, Sub, Eq, Lt, Shl, Shr, Mux, Concat, Slice, Extend, Reduce}
use Rattle.cell_graph.specs.declared.cell.CellId.{CellId}
use Rattle.cell_graph.specs.declared.cell.ReduceKind.TheVariants as kind
use Rattle.cell_graph.specs.Below.{IsOperand}
use Rattle.cell_graph.specs.Cells.{Cells, cell_at}
use Rattle.cell_graph.specs.Cofactor.{reads}
use Rattle.cell_graph.specs.Reading.{Cube}
use Rattle.cell_graph.specs.Stands.{stands_in}
use Rattle.cell_graph.specs.Tree.{Tree}
use Rattle.cell_graph.specs.Unfolded.{unfolded, tree_at, trees, tree_of, IsWellFormed}
use Rattle.cell_graph.proofs.Cones.{operand-before, cell-there}
use Rattle.cell_graph.proofs.Trees.{tree_of-cell}
use Rattle.cell_graph.proofs.Unread.{reads-unread}
use Rattle.cdc_model.specs.declared.below.Marks.{Marks}
use Rattle.cdc_model.specs.declared.below.Marks.TheVariants.{Several}
use Rattle.cdc_model.specs.Marked.{Admits, mark_of, marks_at, ShowsMarks}

-- it stands in the tree of an operand
abbrev StandsBelow : ℕ → List Tree → Cell → Type 0
StandsBelow s ts c = (a : CellId) × IsOperand c a × (stands_in s (tree_at ts a) ≡ true)

of_two : (s : ℕ) (ts : List Tree) (c : Cell) (a b : CellId) → ((x : CellId) → (x ≡ a) ⊎ (x ≡ b) → IsOperand c x)
    → (stands_in s (tree_at ts a) ≡ true) ⊎ (stands_in s (tree_at ts b) ≡ true) → StandsBelow s ts c
of_two s ts c a b is (inl h) = (a, is a (inl refl), h)
of_two s ts c a b is (inr h) = (b, is b (inr refl), h)

stands-unfolded : (signals : List Signal) (ts : List Tree) (c : Cell) (s : ℕ) → stands_in s (unfolded signals ts c) ≡ true → (c ≡ Var s) ⊎ StandsBelow s ts c
stands-unfolded signals ts (Var sig) s h = inl (ap Var (sym (eqb-true s sig h)))
stands-unfolded signals ts (Const w value) s h = absurd (cc)
stands-unfolded signals ts (Not a) s h = inr (a, refl, h)
stands-unfolded signals ts (And a b) s h = inr (of_two s ts (And a b) a b (λ x i. i) (or_cases (stands_in s (tree_at ts a)) (stands_in s (tree_at ts b)) h))
stands-unfolded signals ts (Or a b) s h = inr (of_two s ts (Or a b) a b (λ x i. i) (or_cases (stands_in s (tree_at ts a)) (stands_in s (tree_at ts b)) h))
stands-unfolded signals ts (Xor a b) s h = inr (of_two s ts (Xor a b) a b (λ x i. i) (or_cases (stands_in s (tree_at ts a)) (stands_in s (tree_at ts b)) h))
stands-unfolded signals ts (Add a b) s h = inr (of_two s ts (Add a b) a b (λ x i. i) (or_cases (stands_in s (tree_at ts a)) (stands_in s (tree_at ts b)) h))
stands-unfolded signals ts (Sub a b) s h = inr (of_two s ts (Sub a b) a b (λ x i. i) (or_cases (stands_in s (tree_at ts a)) (stands_in s (tree_at ts b)) h))
stands-unfolded signals ts (Eq a b) s h = inr (of_two s ts (Eq a b) a b (λ x i. i) (or_cases (stands_in s (tree_at ts a)) (stands_in s (tree_at ts b)) h))
stands-unfolded signals ts (Lt a b) s h = inr (of_two s ts (Lt a b) a b (λ x i. i) (or_cases (stands_in s (tree_at ts a)) (stands_in s (tree_at ts b)) h))
stands-unfolded signals ts (Shl a by) s h = inr (of_two s ts (Shl a by) a by (λ x i. i) (or_cases (stands_in s (tree_at ts a)) (stands_in s (tree_at ts by)) h))
stands-unfolded signals ts (Shr a by) s h = inr (of_two s ts (Shr a by) a by (λ x i. i) (or_cases (stands_in s (tree_at ts a)) (stands_in s (tree_at ts by)) h))
stands-unfolded signals ts (Mux c x y) s h = inr (elim (or_cases (stands_in s (tree_at ts c)) (stands_in s (tree_at ts x) || stands_in s (tree_at ts y)) h) [
  | inl i ↦ (c, inl refl, i)
  | inr i ↦ of_two s ts (Mux c x y) x y (λ z j. inr j) (or_cases (stands_in s (tree_at ts x)) (stands_in s (tree_at ts y)) i)
])
stands-unfolded signals ts (Concat high low) s h = inr (of_two s ts (Concat high low) high low (λ x i. i) (or_cases (stands_in s (tree_at ts high)) (stands_in s (tree_at ts low)) h))
stands-unfolded signals ts (Slice a at w) s h = inr (a, refl, h)
stands-unfolded signals ts (Extend a w) s h = inr (a, refl, h)
stands-unfolded signals ts (Reduce kind.And a) s h = inr (a, refl, h)
stands-unfolded signals ts (Reduce kind.Or a) s h = inr (a, refl, h)
stands-unfolded signals ts (Reduce kind.Xor a) s h = inr (a, refl, h)

-- ---- cells in their order

marks-kept : (below : List Marks) (m : Marks) (a : CellId) → a.0 < length below → marks_at (below ++ m ∷ []) a ≡ marks_at below a
marks-kept below m a h = unwrap_or-slice_get (below ++ m ∷ []) a.0 Several ∙ get_or_append_left below (m ∷ []) Several a.0 h ∙ sym (unwrap_or-slice_get below a.0 Several)

marks-added : (below : List Marks) (m : Marks) (a : CellId) → a.0 ≡ length below → marks_at (below ++ m ∷ []) a ≡ m
marks-added below m a h = unwrap_or-slice_get (below ++ m ∷ []) a.0 Several ∙ ap (λ n. get_or (below ++ m ∷ []) n Several) h ∙ get_or-append_seam below m [] Several

module _ (g : Cells) (well : IsWellFormed g) (marks : List (Option ℕ)) (below : List Marks) (n : ℕ) (counted : length below ≡ n) (lt : n < length g.cells)
    (shown : (a : CellId) → a.0 < n → ShowsMarks g marks below a) (id : CellId) (at : id.0 ≡ n) (m : Marks)
    (own : (sig : ℕ) → cell_at g id ≡ Var sig → Admits m (mark_of marks sig))
    (operands : (a : CellId) (mark : Option ℕ) → IsOperand (cell_at g id) a → Admits (marks_at below a) mark → Admits m mark) where
  there : slice_get g.cells id.0 ≡ Some (cell_at g id)
  there = cell-there g id (omega arith)

  of-cell : (sig : ℕ) → stands_in sig (tree_of g id) ≡ true → Admits m (mark_of marks sig)
  of-cell sig h = elim (stands-unfolded g.signals (trees g) (cell_at g id) sig (subst (λ (t : Tree). stands_in sig t ≡ true) (tree_of-cell g well id (cell_at g id) there) h)) [
    | inl e ↦ own sig e
    | inr k ↦
        let first = operand-before g id.0 (cell_at g id) (well.cells id.0 (cell_at g id) there) k.0 k.1 in
        operands k.0 (mark_of marks sig) k.1 (shown k.0 (omega arith) sig k.2)
  ]

  -- one cell more shows its marks, where those before it do
  pub one_more : (a : CellId) → a.0 < n + 1 → ShowsMarks g marks (below ++ m ∷ []) a
  one_more a h sig stands = go (nat_lt a.0 n) refl
    where
      go : (v : Bool) → nat_lt a.0 n ≡ v → Admits (marks_at (below ++ m ∷ []) a) (mark_of marks sig)
      go true e = let l = ltb-true a.0 n e in
          subst (λ (k : Marks). Admits k (mark_of marks sig)) (sym (marks-kept below m a (omega arith))) (shown a l sig stands)
      go false e =
          let l = ltb-false a.0 n e in
          let same : a.0 ≡ id.0 = omega arith in
          let is : a ≡ id = ap (λ (k : ℕ). let c : CellId = record { 0 = k } in c) same in
          subst (λ (k : Marks). Admits k (mark_of marks sig)) (sym (marks-added below m a (omega arith))) (of-cell sig (subst (λ (c : CellId). stands_in sig (tree_of g c) ≡ true) is stands))

-- the mark of a signal of which a cell reads a bit isn't left out
pub admitted : (g : Cells) (marks : List (Option ℕ)) (below : List Marks) (id : CellId) → ShowsMarks g marks below id
    → (cube : Cube) (i : ℕ) (b : Bit) → reads cube (tree_of g id) i b ≡ true → Admits (marks_at below id) (mark_of marks b.sig)
admitted g marks below id shown cube i b h = go (stands_in b.sig (tree_of g id)) refl
  where
    never : true ≡ false → ⊥
    never e = cc

    go : (v : Bool) → stands_in b.sig (tree_of g id) ≡ v → Admits (marks_at below id) (mark_of marks b.sig)
    go true e = shown b.sig e
    go false e = absurd (never (sym h ∙ reads-unread cube (tree_of g id) i b e))
