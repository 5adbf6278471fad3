-- A graph that grows by a cell, or step by step.
use Rattle.std.proofs.Common.{◌≡◌, ◌∙◌, refl, sym, ap, ap₂, arith, ℕ, ◌<◌, cond, List, [], ◌∷◌, ◌++◌, length, Option, Some, None, is_some, unwrap_or}
use Rattle.cell_graph.specs.declared.cell.Cell.{Cell}
use Rattle.cell_graph.specs.declared.cell.CellId.{CellId}
use Rattle.cell_graph.specs.Tree.{Tree, Const}
use Rattle.cell_graph.specs.Cells.{Cells, cell_width, in_order, place_in, with_cell}
use Rattle.cell_graph.specs.Unfolded.{tree_at, tree_of, trees, unfolded}
use Rattle.cell_graph.proofs.CellValues.{length-in_order}
use Rattle.cell_graph.proofs.Grown.{added-keeps}
use Rattle.cell_graph.proofs.Places.{in_order-push}
use Rattle.cell_graph.proofs.Trees.{get-push_old}
use Rattle.elaborate.specs.Grown.{Grows}

pub grows_refl : (g : Cells) → Grows g g
grows_refl g = record { signals = refl; words = λ id w is. is; trees = λ id l. refl }

pub grows_trans : (g h k : Cells) → Grows g h → Grows h k → Grows g k
grows_trans g h k a b = record {
  signals = b.signals ∙ a.signals;
  words = λ id w is. b.words id w (a.words id w is);
  trees = λ id l. b.trees id (a.words id (cell_width g id) (l, refl)).0 ∙ a.trees id l;
}

-- the trees before an added cell
trees-added : (g h : Cells) (c : Cell) → h.signals ≡ g.signals → h.cells ≡ with_cell g.cells c → (id : CellId) → id.0 < length g.cells → tree_of h id ≡ tree_of g id
trees-added g h c s e id l = go (place_in g.cells c) refl
  where
    go : (o : Option ℕ) → place_in g.cells c ≡ o → tree_of h id ≡ tree_of g id
    go (Some k) f =
        ap₂ (λ ss cs. tree_at (in_order (unfolded ss) [] cs) id) s (e ∙ ap (λ o. cond (is_some o) g.cells (g.cells ++ c ∷ [])) f)
    go None f =
        ap₂ (λ ss cs. tree_at (in_order (unfolded ss) [] cs) id) s (e ∙ ap (λ o. cond (is_some o) g.cells (g.cells ++ c ∷ [])) f)
        ∙ ap (λ ts. tree_at ts id) (in_order-push (unfolded g.signals) [] g.cells c)
        ∙ ap (λ o. unwrap_or o (Tree.Const 1 0)) (get-push_old (trees g) (unfolded g.signals (trees g) c) id.0 (let n = length-in_order (unfolded g.signals) [] g.cells in omega arith))

-- an added cell leaves the cells before it
pub added-grows : (g h : Cells) (c : Cell) → h.signals ≡ g.signals → h.cells ≡ with_cell g.cells c → Grows g h
added-grows g h c s e = let keeps = added-keeps g h c s e in record { signals = s; words = keeps.1; trees = trees-added g h c s e }
