-- Nodes that hold codes: the origins of the bits of a cell.
use Rattle.std.proofs.Common.{◌≡◌, ◌∙◌, ℕ, zero, suc, ◌+◌, ◌-◌, ◌<◌, true, Option, Some, None, option_map, unwrap_or, List, [], ◌∷◌, ◌++◌, map, length, Contains, refl, sym, ap, subst, inl, inr, arith}
use Rattle.std.specs.Option.{option_map_or}
use Rattle.std.specs.Prelude.{◌≤◌, slice_get}
use Rattle.std.proofs.lemmas.List.{append_assoc, map-append}
use Rattle.std.proofs.lemmas.List.Elements.{Contains-push_cases}
use Rattle.cdc_base.specs.declared.signal.Signal.{Signal}
use Rattle.cell_graph.specs.declared.cell.Cell.TheVariants.{Var}
use Rattle.cell_graph.specs.declared.cell.CellId.{CellId}
use Rattle.cell_graph.specs.declared.cell.Node.{Node}
use Rattle.cell_graph.specs.Cells.{Cells, cell_at, cell_width}
use Rattle.cell_graph.specs.Nets.{bit_count}
use Rattle.cell_graph.specs.Origin.{TreeBit, origin}
use Rattle.cell_graph.specs.Tree as tree
use Rattle.cell_graph.specs.Tree.{Tree, width}
use Rattle.cell_graph.specs.Unfolded.{IsWellFormed, bit_of, tree_of, trees, unfolded}
use Rattle.cell_graph.proofs.Cones.{cell-there}
use Rattle.cell_graph.proofs.Trees.{tree_of-cell, width-tree_of}
use Rattle.cdc_model.specs.declared.scheme.Shape.{Shape}
use Rattle.cdc_model.specs.declared.scheme.Shape.TheVariants.{G1, G2, G3}
use Rattle.cdc_model.specs.Word.{cells, origins, own_word}
use Rattle.gray_pointer.specs.Words.{IsIn}
use Rattle.fifo_laws.specs.Sides.{held_in}
use Rattle.fifo_parts.specs.Sides.{AreVars, holds, var_of}

-- The nodes are the origins of the bits of a tree below `at`, of w bits.
pub record AreOriginsSoFar (g : Cells) (t : Tree) (w at : ℕ) (held : List (Option Node)) : Type 0 where
  pub are : map (option_map (bit_of g)) held ++ origins t at (w - at) ≡ origins t 0 w
  pub within : (n : Option Node) → Contains held n → IsIn g n

module _ (g : Cells) (t : Tree) (w : ℕ) where
  pub origins_more : (at : ℕ) (held : List (Option Node)) (o : Option Node) → at < w → origin t at ≡ option_map (bit_of g) o → IsIn g o
      → AreOriginsSoFar g t w at held → AreOriginsSoFar g t w (at + 1) (held ++ o ∷ [])
  origins_more at held o lt is inside so = record {
    are = ap (λ xs. xs ++ origins t (at + 1) (w - (at + 1))) (map-append (option_map (bit_of g)) held (o ∷ []))
        ∙ append_assoc (map (option_map (bit_of g)) held) (option_map (bit_of g) o ∷ []) (origins t (at + 1) (w - (at + 1)))
        ∙ ap (λ xs. map (option_map (bit_of g)) held ++ xs) (sym next) ∙ so.are;
    within = λ n i. elim (Contains-push_cases held o n i) [ inl j ↦ so.within n j | inr e ↦ subst (IsIn g) e inside ];
  }
    where
      next : origins t at (w - at) ≡ option_map (bit_of g) o ∷ origins t (at + 1) (w - (at + 1))
      next = ap (origins t at) (let e : w - at ≡ suc (w - (at + 1)) = omega arith in e)
          ∙ ap (λ k. origin t at ∷ origins t k (w - (at + 1))) (let e : suc at ≡ at + 1 = omega arith in e)
          ∙ ap (λ x. x ∷ origins t (at + 1) (w - (at + 1))) is

own_origins : (sig w i n : ℕ) → origins (tree.Var sig w) i n ≡ cells (tree.Var sig w) i n
own_origins sig w i zero = refl
own_origins sig w i (suc n) = ap (λ xs. Some (tree.Var sig w, i) ∷ xs) (own_origins sig w (suc i) n)

pub wide_signal : (o : Option Signal) (w : ℕ) → 1 ≤ w → option_map_or (λ (s : Signal). s.width) o 0 ≡ w
    → option_map_or (λ (s : Signal). s.width) o 1 ≡ w
wide_signal None w l e = absurd (omega arith)
wide_signal (Some s) w l e = e

-- the origins of a signal's own cell are its own word
pub own_nodes : (g : Cells) → IsWellFormed g → (c : CellId) (sig w : ℕ) → c.0 < length g.cells → cell_at g c ≡ Var sig → 1 ≤ w
    → bit_count g.signals sig ≡ w
    → origins (tree_of g c) 0 w ≡ own_word sig w
own_nodes g well c sig w inside is l wide = ap (λ t. origins t 0 w) tree_is ∙ own_origins sig w 0 w
  where
    tree_is : tree_of g c ≡ tree.Var sig w
    tree_is = tree_of-cell g well c (cell_at g c) (cell-there g c inside) ∙ ap (unfolded g.signals (trees g)) is
        ∙ ap (tree.Var sig) (wide_signal (slice_get g.signals sig) w l wide)

-- a cell that is kept for a signal is that signal's
pub var_kept : (g : Cells) (kept : List (Option CellId)) → AreVars g kept → (sig : ℕ) (c : CellId) → var_of kept sig ≡ Some c
    → (cell_at g c ≡ Var sig) × (c.0 < length g.cells)
var_kept g kept are sig c e = go (slice_get kept sig) refl e
  where
    go : (o : Option (Option CellId)) → slice_get kept sig ≡ o → unwrap_or o None ≡ Some c → (cell_at g c ≡ Var sig) × (c.0 < length g.cells)
    go None at f = cc
    go (Some k) at f = are.only sig c (at ∙ ap Some f)

-- it is as wide as that
pub own_width : (g : Cells) → IsWellFormed g → (c : CellId) (sig w : ℕ) → c.0 < length g.cells → cell_at g c ≡ Var sig → 1 ≤ w
    → bit_count g.signals sig ≡ w → cell_width g c ≡ w
own_width g well c sig w inside is l wide =
    width-tree_of g c ∙ ap width (tree_of-cell g well c (cell_at g c) (cell-there g c inside) ∙ ap (unfolded g.signals (trees g)) is)
    ∙ wide_signal (slice_get g.signals sig) w l wide

-- a register that holds the code of the count holds it in all its nodes; another one in none
pub held_all : (s : Shape) → holds s ≡ true → (ns : List TreeBit) → ns ≡ held_in s ns
held_all G1 e ns = refl
held_all G2 e ns = refl
held_all G3 e ns = cc
