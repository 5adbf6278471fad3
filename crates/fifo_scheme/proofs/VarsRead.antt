-- A signal that stands in the tree of a cell has a cell.
use Rattle.std.proofs.Common.{◌≡◌, ◌∙◌, ◌⊎◌, inl, inr, refl, sym, ap, subst, arith, ℕ, zero, suc, ◌<◌, ◌||◌, eqb-true, Bool, true, false, List, [], length}
use Rattle.std.proofs.lemmas.Bool.{or_cases}
use Rattle.cdc_base.specs.declared.bit.Bit.{Bit}
use Rattle.cdc_base.specs.declared.signal.Signal.{Signal}
use Rattle.cell_graph.specs.declared.cell.Cell.{Cell}
use Rattle.cell_graph.specs.declared.cell.Cell.TheVariants.{Var, Const, Not, And, Or, Xor, Add, Sub, Eq, Lt, Shl, Shr, Mux, Concat, Slice, Extend, Reduce}
use Rattle.cell_graph.specs.declared.cell.CellId.{CellId}
use Rattle.cell_graph.specs.declared.cell.ReduceKind.TheVariants as kind
use Rattle.cell_graph.specs.Below.{IsOperand}
use Rattle.cell_graph.specs.Cells.{Cells, cell_at}
use Rattle.cell_graph.specs.Cofactor.{reads}
use Rattle.cell_graph.specs.Stands.{stands_in}
use Rattle.cell_graph.specs.Tree.{Tree}
use Rattle.cell_graph.specs.Unfolded.{unfolded, tree_at, trees, tree_of, IsWellFormed}
use Rattle.cell_graph.proofs.Cones.{operand-before, cell-there}
use Rattle.cell_graph.proofs.Trees.{tree_of-cell}
use Rattle.cell_graph.proofs.Unread.{reads-unread}
use Rattle.fifo_parts.specs.Sides.{HasVar}

-- it stands in the tree of an operand
abbrev StandsBelow : ℕ → List Tree → Cell → Type 0
StandsBelow s ts c = (a : CellId) × IsOperand c a × (stands_in s (tree_at ts a) ≡ true)

of_two : (s : ℕ) (ts : List Tree) (c : Cell) (a b : CellId) → ((x : CellId) → (x ≡ a) ⊎ (x ≡ b) → IsOperand c x)
    → (stands_in s (tree_at ts a) || stands_in s (tree_at ts b)) ≡ true → StandsBelow s ts c
of_two s ts c a b is h = elim (or_cases (stands_in s (tree_at ts a)) (stands_in s (tree_at ts b)) h) [ inl k ↦ (a, is a (inl refl), k) | inr k ↦ (b, is b (inr refl), k) ]

stands_below : (signals : List Signal) (ts : List Tree) (c : Cell) (s : ℕ) → stands_in s (unfolded signals ts c) ≡ true → (c ≡ Var s) ⊎ StandsBelow s ts c
stands_below signals ts (Var sig) s h = inl (ap Var (sym (eqb-true s sig h)))
stands_below signals ts (Const w value) s h = absurd (cc)
stands_below signals ts (Not a) s h = inr (a, refl, h)
stands_below signals ts (And a b) s h = inr (of_two s ts (And a b) a b (λ x i. i) h)
stands_below signals ts (Or a b) s h = inr (of_two s ts (Or a b) a b (λ x i. i) h)
stands_below signals ts (Xor a b) s h = inr (of_two s ts (Xor a b) a b (λ x i. i) h)
stands_below signals ts (Add a b) s h = inr (of_two s ts (Add a b) a b (λ x i. i) h)
stands_below signals ts (Sub a b) s h = inr (of_two s ts (Sub a b) a b (λ x i. i) h)
stands_below signals ts (Eq a b) s h = inr (of_two s ts (Eq a b) a b (λ x i. i) h)
stands_below signals ts (Lt a b) s h = inr (of_two s ts (Lt a b) a b (λ x i. i) h)
stands_below signals ts (Shl a by) s h = inr (of_two s ts (Shl a by) a by (λ x i. i) h)
stands_below signals ts (Shr a by) s h = inr (of_two s ts (Shr a by) a by (λ x i. i) h)
stands_below signals ts (Mux c x y) s h = inr (elim (or_cases (stands_in s (tree_at ts c)) (stands_in s (tree_at ts x) || stands_in s (tree_at ts y)) h) [
  | inl i ↦ (c, inl refl, i)
  | inr i ↦ of_two s ts (Mux c x y) x y (λ z j. inr j) i
])
stands_below signals ts (Concat high low) s h = inr (of_two s ts (Concat high low) high low (λ x i. i) h)
stands_below signals ts (Slice a at w) s h = inr (a, refl, h)
stands_below signals ts (Extend a w) s h = inr (a, refl, h)
stands_below signals ts (Reduce kind.And a) s h = inr (a, refl, h)
stands_below signals ts (Reduce kind.Or a) s h = inr (a, refl, h)
stands_below signals ts (Reduce kind.Xor a) s h = inr (a, refl, h)

module _ (g : Cells) (well : IsWellFormed g) (sig : ℕ) where
  stands_up_to : (n : ℕ) (id : CellId) → id.0 < n → id.0 < length g.cells → stands_in sig (tree_of g id) ≡ true → HasVar g sig
  stands_up_to zero id l lt h = absurd (omega arith)
  stands_up_to (suc n) id l lt h =
      let there = cell-there g id lt in
      elim (stands_below g.signals (trees g) (cell_at g id) sig (subst (λ (t : Tree). stands_in sig t ≡ true) (tree_of-cell g well id (cell_at g id) there) h)) [
        | inl e ↦ (id, lt, e)
        | inr k ↦ (let first = operand-before g id.0 (cell_at g id) (well.cells id.0 (cell_at g id) there) k.0 k.1 in stands_up_to n k.0 (omega arith) (omega arith) k.2)
      ]

  -- so has one of which a cell reads a bit
  pub read_var : (id : CellId) → id.0 < length g.cells → (i : ℕ) (b : Bit) → b.sig ≡ sig → reads [] (tree_of g id) i b ≡ true → HasVar g sig
  read_var id lt i b of h = go (stands_in sig (tree_of g id)) refl
    where
      never : {A : Type 0} → true ≡ false → A
      never e = cc

      go : (v : Bool) → stands_in sig (tree_of g id) ≡ v → HasVar g sig
      go true e = stands_up_to (suc id.0) id (omega arith) lt e
      go false e = never (sym h ∙ reads-unread [] (tree_of g id) i b (subst (λ (n : ℕ). stands_in n (tree_of g id) ≡ false) (sym of) e))
