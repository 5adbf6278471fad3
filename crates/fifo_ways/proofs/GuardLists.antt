-- The lists of guards have the guards that are asked for.
use Rattle.std.proofs.Common.{◌≡◌, ◌⊎◌, inl, inr, ◌∙◌, sym, ap, subst, refl, arith, ℕ, zero, suc, ◌<◌, ◌≤◌, Bool, true, false, nat_lt, ltb-true, ltb-false, List, [], ◌∷◌, ◌++◌, length}
use Rattle.std.specs.List.{Contains}
use Rattle.std.proofs.lemmas.List.Elements.{Contains-append_cases, Contains-append_left, Contains-append_right}
use Rattle.cdc_base.specs.declared.bit.Bit.{Bit}
use Rattle.cell_graph.specs.declared.cell.Cell.{Cell}
use Rattle.cell_graph.specs.declared.cell.Cell.TheVariants.{Var, Const, Not, And, Or, Xor, Add, Sub, Eq, Lt, Shl, Shr, Mux, Concat, Slice, Extend, Reduce}
use Rattle.cell_graph.specs.declared.cell.CellId.{CellId}
use Rattle.cell_graph.specs.declared.cell.Node.{Node}
use Rattle.cell_graph.specs.Below.{IsClosed, AreIn}
use Rattle.cell_graph.specs.Cells.{Cells, cell_at, cell_width}
use Rattle.cell_graph.specs.Unfolded.{IsCellOf, IsWellFormed, IsNodeOf}
use Rattle.cell_graph.proofs.Trees.{width-tree_of}
use Rattle.cofactor.proofs.Places.{below-listed}
use Rattle.gray_pointer.proofs.Trees.{tree_there, is_cell}
use Rattle.cell_graph.specs.Tree.{width}
use Rattle.cell_graph.specs.Unfolded.{unfolded, trees}
use Rattle.fifo_ways.specs.declared.sought.Guard.{Guard}
use Rattle.fifo_ways.specs.Guards.{guard, IsGuardOf, pair_guards, cell_guards, all_guards, cells_of, IsAsked}

here : {X : Type 0} (x : X) (xs : List X) → Contains (x ∷ xs) x
here x xs = (0, omega arith, refl)

next : {X : Type 0} (x y : X) (xs : List X) → Contains xs y → Contains (x ∷ xs) y
next x y xs h = (suc h.0, (let l = h.1 in omega arith), h.2)

one_of : {X : Type 0} (x y : X) → Contains (x ∷ []) y → x ≡ y
one_of x y (zero, l, e) = e
one_of x y (suc k, l, e) = absurd (omega arith)

of_two : {X : Type 0} (x y z : X) → Contains (x ∷ y ∷ []) z → (z ≡ x) ⊎ (z ≡ y)
of_two x y z (zero, l, e) = inl (sym e)
of_two x y z (suc zero, l, e) = inr (sym e)
of_two x y z (suc (suc k), l, e) = absurd (omega arith)

module _ (a b : CellId) (v : Bool) where
  pair-in : (n i : ℕ) (p : Guard) → i < n → (p ≡ guard a i v) ⊎ (p ≡ guard b i v) → Contains (pair_guards a b v n) p
  pair-in zero i p lt h = absurd (omega arith)
  pair-in (suc n) i p lt h = go (λ l. pair-in n i p l h) (nat_lt i n) refl
    where
      last : (j : ℕ) → j ≡ n → (p ≡ guard a j v) ⊎ (p ≡ guard b j v) → Contains (guard a n v ∷ guard b n v ∷ []) p
      last j e (inl f) =
          subst (Contains (guard a n v ∷ guard b n v ∷ [])) (ap (λ k. guard a k v) (sym e) ∙ sym f) (here (guard a n v) (guard b n v ∷ []))
      last j e (inr f) =
          subst (Contains (guard a n v ∷ guard b n v ∷ [])) (ap (λ k. guard b k v) (sym e) ∙ sym f)
          (next (guard a n v) (guard b n v) (guard b n v ∷ []) (here (guard b n v) []))

      go : (i < n → Contains (pair_guards a b v n) p) → (t : Bool) → nat_lt i n ≡ t
          → Contains (pair_guards a b v n ++ (guard a n v ∷ guard b n v ∷ [])) p
      go ih true e = Contains-append_left (pair_guards a b v n) (guard a n v ∷ guard b n v ∷ []) p (ih (ltb-true i n e))
      go ih false e =
          let l = ltb-false i n e in
          Contains-append_right (pair_guards a b v n) (guard a n v ∷ guard b n v ∷ []) p (last i (let f : i ≡ n = omega arith in f) h)

  pair-only : (n : ℕ) (p : Guard) → Contains (pair_guards a b v n) p → (i : ℕ) × (i < n) × ((p ≡ guard a i v) ⊎ (p ≡ guard b i v))
  pair-only zero p h = absurd (let l = h.1 in omega arith)
  pair-only (suc n) p h = elim (Contains-append_cases (pair_guards a b v n) (guard a n v ∷ guard b n v ∷ []) p h) [
    | inl k ↦ let s = pair-only n p k in (s.0, (let l = s.1 in omega arith), s.2)
    | inr k ↦ (n, omega arith, of_two (guard a n v) (guard b n v) p k)
  ]

-- the guards of a cell are listed, and no others
cell-in : (c : Cell) (w i : ℕ) (p : Guard) → i < w → IsGuardOf c i p → Contains (cell_guards c w) p
cell-in (And a b) w i p lt h = pair-in a b true w i p lt (elim h [ inl e ↦ inl e | inr e ↦ inr e ])
cell-in (Or a b) w i p lt h = pair-in a b false w i p lt (elim h [ inl e ↦ inl e | inr e ↦ inr e ])
cell-in (Mux c x y) w i p lt (inl e) =
    subst (Contains (guard c 0 true ∷ guard c 0 false ∷ [])) (sym e) (here (guard c 0 true) (guard c 0 false ∷ []))
cell-in (Mux c x y) w i p lt (inr e) =
    subst (Contains (guard c 0 true ∷ guard c 0 false ∷ [])) (sym e)
    (next (guard c 0 true) (guard c 0 false) (guard c 0 false ∷ []) (here (guard c 0 false) []))
cell-in (Var sig) w i p lt h = absurd h
cell-in (Const n value) w i p lt h = absurd h
cell-in (Not a) w i p lt h = absurd h
cell-in (Xor a b) w i p lt h = absurd h
cell-in (Add a b) w i p lt h = absurd h
cell-in (Sub a b) w i p lt h = absurd h
cell-in (Eq a b) w i p lt h = absurd h
cell-in (Lt a b) w i p lt h = absurd h
cell-in (Shl a by) w i p lt h = absurd h
cell-in (Shr a by) w i p lt h = absurd h
cell-in (Concat high low) w i p lt h = absurd h
cell-in (Slice a at n) w i p lt h = absurd h
cell-in (Extend a n) w i p lt h = absurd h
cell-in (Reduce kind a) w i p lt h = absurd h

none : {X : Type 0} {P : Type 0} (x : X) → Contains [] x → P
none x h = absurd (let l = h.1 in omega arith)

module _ (g : Cells) (well : IsWellFormed g) where
  guard-node : (x : CellId) (i : ℕ) (v : Bool) (p : Guard) → p ≡ guard x i v → x.0 < length g.cells → i < cell_width g x → IsNodeOf g p.node
  guard-node x i v p e l lt = subst (λ (q : Guard). IsNodeOf g q.node) (sym e) (l, lt)

  pair-nodes : (n : ℕ) (a b : CellId) (v : Bool) (w : ℕ) (p : Guard) → n ≤ length g.cells → a.0 < n → b.0 < n → w ≤ cell_width g a
      → w ≤ cell_width g b → Contains (pair_guards a b v w) p → IsNodeOf g p.node
  pair-nodes n a b v w p l m k q r h =
      let s = pair-only a b v w p h in let lt = s.1 in
      elim s.2 [ inl e ↦ guard-node a s.0 v p e (omega arith) (omega arith) | inr e ↦ guard-node b s.0 v p e (omega arith) (omega arith) ]

  cell-nodes : (n : ℕ) (c : Cell) (w : ℕ) (p : Guard) → n ≤ length g.cells → IsCellOf g n c → w ≡ width (unfolded g.signals (trees g) c)
      → Contains (cell_guards c w) p → IsNodeOf g p.node
  cell-nodes n (And a b) w p l h e k = let q = width-tree_of g a in let r = h.2 in pair-nodes n a b true w p l h.0 h.1 (omega arith) (omega arith) k
  cell-nodes n (Or a b) w p l h e k = let q = width-tree_of g a in let r = h.2 in pair-nodes n a b false w p l h.0 h.1 (omega arith) (omega arith) k
  cell-nodes n (Mux c x y) w p l h e k =
      let o = h.0 in let q = h.1 in
      elim (of_two (guard c 0 true) (guard c 0 false) p k)
      [ inl f ↦ guard-node c 0 true p f (omega arith) (omega arith) | inr f ↦ guard-node c 0 false p f (omega arith) (omega arith) ]
  cell-nodes n (Var sig) w p l h e k = none p k
  cell-nodes n (Const m value) w p l h e k = none p k
  cell-nodes n (Not a) w p l h e k = none p k
  cell-nodes n (Xor a b) w p l h e k = none p k
  cell-nodes n (Add a b) w p l h e k = none p k
  cell-nodes n (Sub a b) w p l h e k = none p k
  cell-nodes n (Eq a b) w p l h e k = none p k
  cell-nodes n (Lt a b) w p l h e k = none p k
  cell-nodes n (Shl a by) w p l h e k = none p k
  cell-nodes n (Shr a by) w p l h e k = none p k
  cell-nodes n (Concat high low) w p l h e k = none p k
  cell-nodes n (Slice a at m) w p l h e k = none p k
  cell-nodes n (Extend a m) w p l h e k = none p k
  cell-nodes n (Reduce kind a) w p l h e k = none p k

  pub all-nodes : (cells : List CellId) (p : Guard) → AreIn g cells → Contains (all_guards g cells) p → IsNodeOf g p.node
  all-nodes [] p within h = none p h
  all-nodes (c ∷ cs) p within h =
      let l = within c (here c cs) in
      elim (Contains-append_cases (cell_guards (cell_at g c) (cell_width g c)) (all_guards g cs) p h) [
        | inl k ↦ cell-nodes c.0 (cell_at g c) (cell_width g c) p (omega arith) (is_cell g well c l)
            (width-tree_of g c ∙ ap width (tree_there g well c l)) k
        | inr k ↦ all-nodes cs p (λ d j. within d (next c d cs j)) k
      ]

  all-in : (cells : List CellId) (c : CellId) (i : ℕ) (p : Guard) → Contains cells c → i < cell_width g c → IsGuardOf (cell_at g c) i p
      → Contains (all_guards g cells) p
  all-in [] c i p h lt of = none c h
  all-in (d ∷ cs) c i p (zero, l, e) lt of =
      Contains-append_left (cell_guards (cell_at g d) (cell_width g d)) (all_guards g cs) p
      (subst (λ x. Contains (cell_guards (cell_at g x) (cell_width g x)) p) (sym e) (cell-in (cell_at g c) (cell_width g c) i p lt of))
  all-in (d ∷ cs) c i p (suc k, l, e) lt of =
      Contains-append_right (cell_guards (cell_at g d) (cell_width g d)) (all_guards g cs) p (all-in cs c i p (k, (omega arith), e) lt of)

  pub asked-in : (words : List Bit) (roots : List Node) (cells : List CellId) → ((c : CellId) → Contains (cells_of roots) c → Contains cells c)
      → IsClosed g cells → (p : Guard) → IsAsked g words roots p → Contains (all_guards g cells) p
  asked-in words roots cells tops closed p asked =
      all-in cells asked.0 asked.1 p (below-listed g (cells_of roots) cells tops closed asked.0 asked.2) asked.3 asked.4
