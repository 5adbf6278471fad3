-- Counts of the cells of trees.
use Rattle.std.proofs.Common.{◌≡◌, ◌≢◌, ◌∙◌, ◌⊎◌, refl, sym, ap, ap₂, subst, arith, inl, inr, ℕ, zero, suc, ◌+◌, ◌-◌, ◌<◌, ◌≤◌, min, ◌==◌, eq-eqb, eqb-true, List, [], ◌∷◌, ◌++◌, length, map, drop, set, get_or, Option, Some, None, slice_get}
use Rattle.std.specs.List.{Contains}
use Rattle.std.proofs.lemmas.Bool.{cases_Bool, false≢true, cases_lt}
use Rattle.std.proofs.lemmas.List.{drop_more, get_or-set_same, get_or-set_other}
use Rattle.std.proofs.lemmas.Option.{slice_get_within}
use Rattle.cell_graph.specs.declared.cell.Cell.{Cell}
use Rattle.cell_graph.specs.declared.cell.Cell.TheVariants.{Var, Const, Not, And, Or, Xor, Add, Sub, Eq, Lt, Shl, Shr, Mux, Concat, Slice, Extend, Reduce}
use Rattle.cell_graph.specs.declared.cell.CellId.{CellId}
use Rattle.cell_graph.specs.declared.cell.ReduceKind.{ReduceKind}
use Rattle.cell_graph.specs.declared.cell.ReduceKind.TheVariants as kind
use Rattle.cell_graph.specs.Below.{IsOperand}
use Rattle.cell_graph.specs.Tree as tree
use Rattle.cell_graph.specs.Tree.{Tree}
use Rattle.cell_graph.specs.Unfolded.{reduced, tree_at, unfolded}
use Rattle.flat_meaning.specs.Trees.{Selects, cut, glue}
use Rattle.driver_trees.specs.declared.draft.Draft.{Draft}
use Rattle.driver_trees.specs.declared.sketch.Piece.{Piece}
use Rattle.driver_trees.specs.Drafts.{IsMade}
use Rattle.driver_loops.specs.Leads.{id_in, ids_in, operand_ids}
use Rattle.elaborate.specs.Counts.{IsCountOf, IsCounted, added, capped, cells_in, count_at}
use Rattle.elaborate.specs.Counted.{IsLowCount}
use Rattle.elaborate.proofs.CellTrees.{cut-other, cut-same, glue-both, glue-low, glue-none}

-- ---- trees

some-cells : (t : Tree) → 1 ≤ cells_in t
some-cells (tree.Var sig w) = omega arith
some-cells (tree.Const w value) = omega arith
some-cells (tree.Not a) = omega arith
some-cells (tree.And a b) = omega arith
some-cells (tree.Or a b) = omega arith
some-cells (tree.Xor a b) = omega arith
some-cells (tree.Add a b) = omega arith
some-cells (tree.Sub a b) = omega arith
some-cells (tree.Eq a b) = omega arith
some-cells (tree.Lt a b) = omega arith
some-cells (tree.Shl a by) = omega arith
some-cells (tree.Shr a by) = omega arith
some-cells (tree.Mux c x y) = omega arith
some-cells (tree.Concat high low) = omega arith
some-cells (tree.Slice a at w) = omega arith
some-cells (tree.Extend a w) = omega arith
some-cells (tree.ReduceAnd a) = omega arith
some-cells (tree.ReduceOr a) = omega arith
some-cells (tree.ReduceXor a) = omega arith

none-past : (counts : List ℕ) (v : ℕ) → length counts ≤ v → count_at counts v ≡ 0
none-past [] v l = refl
none-past (n ∷ counts) zero l = absurd (omega arith)
none-past (n ∷ counts) (suc v) l = none-past counts v (omega arith)

-- a vertex with a count has a place
pub counted-within : (counts : List ℕ) (v : ℕ) (t : Tree) → count_at counts v ≡ capped (cells_in t) → v < length counts
counted-within counts v t e = elim (cases_lt v (length counts)) [
  | inl l ↦ l
  | inr l ↦ absurd (let some = some-cells t in let none = none-past counts v l in omega arith)
]

module _ (cells own at w : ℕ) (t : Tree) (is : cells ≡ capped (cells_in t)) where
  pub cut-whole : own ≡ w → cells ≡ capped (cells_in (cut own at w t))
  cut-whole e = is ∙ ap (λ x. capped (cells_in x)) (sym (cut-same own at w t e))

  pub cut-part : (n : ℕ) → own ≢ w → n ≡ min (cells + 1) 4294967295 → n ≡ capped (cells_in (cut own at w t))
  cut-part n other sum = let more : n ≡ capped (suc (cells_in t)) = omega arith in more ∙ ap (λ x. capped (cells_in x)) (sym (cut-other own at w t other))

module _ (m n : ℕ) (t u : Tree) where
  pub above-none : n ≡ 0 → cells_in t ≡ cells_in (glue m t n u)
  above-none e = ap cells_in (sym (glue-none m n t u e))

  pub above-both : 1 ≤ m → 1 ≤ n → suc (cells_in t + cells_in u) ≡ cells_in (glue m t n u)
  above-both some more = ap cells_in (sym (glue-both m n t u some more))

pub filled-whole : (cells n end : ℕ) (u : Tree) → n ≡ end → IsLowCount cells u n → IsLowCount cells (glue (end - n) (tree.Const (end - n) 0) n u) end
filled-whole cells n end u e is some =
    is (omega arith) ∙ ap (λ x. capped (cells_in x)) (sym (glue-low (end - n) n (tree.Const (end - n) 0) u (omega arith) (omega arith)))

-- ---- cells and their operands

pub added-append : (counts xs ys : List ℕ) → added counts (xs ++ ys) ≡ added counts xs + added counts ys
added-append counts [] ys = let e : added counts ys ≡ 0 + added counts ys = omega arith in e
added-append counts (v ∷ xs) ys = let e = added-append counts xs ys in omega arith

-- a sum and one number more of it
pub one-added : (old new more rest whole : ℕ) → new ≡ min (old + more) 4294967295 → capped (old + (more + rest)) ≡ whole → capped (new + rest) ≡ whole
one-added old new more rest whole e is = let f : capped (new + rest) ≡ capped (old + (more + rest)) = omega arith in f ∙ is

reduced-cells : (k : ReduceKind) (t : Tree) → cells_in (reduced k t) ≡ suc (cells_in t)
reduced-cells kind.And t = refl
reduced-cells kind.Or t = refl
reduced-cells kind.Xor t = refl

module _ (counts : List ℕ) (ts : List Tree) where
  abbrev KnowsCells : CellId → Type 0
  KnowsCells a = count_at counts a.0 ≡ capped (cells_in (tree_at ts a))

  one : (a : CellId) → KnowsCells a → capped (capped (added counts (a.0 ∷ [])) + 1) ≡ capped (suc (cells_in (tree_at ts a)))
  one a k = omega arith

  two : (a b : CellId) → KnowsCells a → KnowsCells b → capped (capped (added counts (a.0 ∷ b.0 ∷ [])) + 1) ≡ capped (suc (cells_in (tree_at ts a) + cells_in (tree_at ts b)))
  two a b k l = omega arith

  pub made-cells : (ds : List Draft) (n w : ℕ) (c : Cell) → IsMade ds n w c → ((a : CellId) → IsOperand c a → KnowsCells a)
      → capped (capped (added counts (operand_ids c)) + 1) ≡ capped (cells_in (unfolded [] ts c))
  made-cells ds n w (Var sig) is known = absurd is
  made-cells ds n w (Const v value) is known = omega arith
  made-cells ds n w (Not a) is known = one a (known a refl)
  made-cells ds n w (And a b) is known = two a b (known a (inl refl)) (known b (inr refl))
  made-cells ds n w (Or a b) is known = two a b (known a (inl refl)) (known b (inr refl))
  made-cells ds n w (Xor a b) is known = two a b (known a (inl refl)) (known b (inr refl))
  made-cells ds n w (Add a b) is known = two a b (known a (inl refl)) (known b (inr refl))
  made-cells ds n w (Sub a b) is known = two a b (known a (inl refl)) (known b (inr refl))
  made-cells ds n w (Eq a b) is known = two a b (known a (inl refl)) (known b (inr refl))
  made-cells ds n w (Lt a b) is known = two a b (known a (inl refl)) (known b (inr refl))
  made-cells ds n w (Shl a by) is known = two a by (known a (inl refl)) (known by (inr refl))
  made-cells ds n w (Shr a by) is known = two a by (known a (inl refl)) (known by (inr refl))
  made-cells ds n w (Mux c x y) is known =
      let k = known c (inl refl) in let l = known x (inr (inl refl)) in let m = known y (inr (inr refl)) in
      let e : capped (capped (count_at counts c.0 + (count_at counts x.0 + (count_at counts y.0 + 0))) + 1) ≡ capped (suc (cells_in (tree_at ts c) + (cells_in (tree_at ts x) + cells_in (tree_at ts y)))) = omega arith in e
  made-cells ds n w (Concat high low) is known = two high low (known high (inl refl)) (known low (inr refl))
  made-cells ds n w (Slice a at v) is known = one a (known a refl)
  made-cells ds n w (Extend a v) is known = one a (known a refl)
  made-cells ds n w (Reduce k a) is known = one a (known a refl) ∙ ap capped (sym (reduced-cells k (tree_at ts a)))

-- ---- vertices

module _ (sel : Selects) (ds : List Draft) (ps : List Piece) (old new : List ℕ) (vertex cells : ℕ)
    (counted : length old ≡ length ds + length ps) (is : IsCountOf sel ds ps vertex cells)
    (kept : vertex < length old → new ≡ set old vertex cells) (past : length old ≤ vertex → new ≡ old) where
  count-last : vertex < length old → count_at new vertex ≡ cells
  count-last l = ap (λ counts. count_at counts vertex) (kept l) ∙ get_or-set_same old vertex cells 0 l

  counted-last : IsCounted sel ds ps new vertex
  counted-last = record {
    draft = λ id at l. count-last (omega arith) ∙ is.draft id at l;
    piece = λ i p at here. count-last (let l = slice_get_within ps i p here in omega arith) ∙ is.piece i p at here;
  }

  counted-before : (v : ℕ) → v ≢ vertex → IsCounted sel ds ps old v → IsCounted sel ds ps new v
  counted-before v other known =
      let stays : count_at new v ≡ count_at old v = elim (cases_lt vertex (length old)) [
        | inl l ↦ ap (λ counts. count_at counts v) (kept l) ∙ get_or-set_other old vertex v cells 0 other
        | inr l ↦ ap (λ counts. count_at counts v) (past l)
      ] in
      subst (IsCountOf sel ds ps v) (sym stays) known

  pub counted-vertex : (v : ℕ) → (v ≡ vertex) ⊎ IsCounted sel ds ps old v → IsCounted sel ds ps new v
  counted-vertex v (inl e) = subst (IsCounted sel ds ps new) (sym e) counted-last
  counted-vertex v (inr known) = elim (cases_Bool (v == vertex)) [
    | inl e ↦ subst (IsCounted sel ds ps new) (sym (eqb-true v vertex e)) counted-last
    | inr e ↦ counted-before v (λ same. false≢true (sym e ∙ eq-eqb v vertex same)) known
  ]
