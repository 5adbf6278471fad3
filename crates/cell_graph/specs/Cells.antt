-- The cells of a graph, and their widths.
use Rattle.std.specs.Prelude.{ℕ, ◌+◌, min, Bool, cond, List, [], ◌∷◌, ◌++◌, length, Option, is_some, slice_get, unwrap_or, position}
use Rattle.std.specs.Option.{option_map_or}
use Rattle.cdc_base.specs.declared.signal.Signal.{Signal}
use Rattle.cell_graph.specs.contracts.cell.CellPartialEq.TheImpl as equality
use Rattle.cell_graph.specs.declared.cell.Cell.{Cell}
use Rattle.cell_graph.specs.declared.cell.Cell.TheVariants.{Var, Const, Not, And, Or, Xor, Add, Sub, Eq, Lt, Shl, Shr, Mux, Concat, Slice, Extend, Reduce}
use Rattle.cell_graph.specs.declared.cell.CellId.{CellId}

-- what callers see of a graph: `calls` counts the calls of `add` that answered
pub record Cells : Type 0 where
  pub signals : List Signal
  pub cells : List Cell
  pub calls : ℕ

-- an answer for each cell, made from the answers for the cells before it
abbrev pub in_order : {A : Type 0} → (List A → Cell → A) → List A → List Cell → List A
in_order f before [] = before
in_order f before (c ∷ cs) = in_order f (before ++ f before c ∷ []) cs

-- the width of a signal, and of a cell by the widths of all; 1 where there is none
abbrev pub signal_width : List Signal → ℕ → ℕ
signal_width signals sig = option_map_or (λ (s : Signal). s.width) (slice_get signals sig) 1

abbrev pub width_at : List ℕ → CellId → ℕ
width_at widths id = unwrap_or (slice_get widths id.0) 1

-- the bits of a cell, by the widths of the cells before it; a width is a byte
abbrev pub width_of : List Signal → List ℕ → Cell → ℕ
width_of signals ws (Var sig) = signal_width signals sig
width_of signals ws (Const w value) = w
width_of signals ws (Not a) = width_at ws a
width_of signals ws (And a b) = width_at ws a
width_of signals ws (Or a b) = width_at ws a
width_of signals ws (Xor a b) = width_at ws a
width_of signals ws (Add a b) = width_at ws a
width_of signals ws (Sub a b) = width_at ws a
width_of signals ws (Eq a b) = 1
width_of signals ws (Lt a b) = 1
width_of signals ws (Shl a by) = width_at ws a
width_of signals ws (Shr a by) = width_at ws a
width_of signals ws (Mux c x y) = width_at ws x
width_of signals ws (Concat high low) = min (width_at ws high + width_at ws low) 255
width_of signals ws (Slice a at w) = w
width_of signals ws (Extend a w) = w
width_of signals ws (Reduce kind a) = 1

abbrev pub widths : List Signal → List Cell → List ℕ
widths signals cells = in_order (width_of signals) [] cells

abbrev pub cell_width : Cells → CellId → ℕ
cell_width g id = width_at (widths g.signals g.cells) id

-- the cell at a place; a zero bit where there is none
abbrev pub cell_at : Cells → CellId → Cell
cell_at g id = unwrap_or (slice_get g.cells id.0) (Const 1 0)

abbrev pub same_cell : Cell → Cell → Bool
same_cell = equality.ghosts.eq

-- the first place of an equal cell
abbrev pub place_in : List Cell → Cell → Option ℕ
place_in cells c = position (same_cell c) cells

-- the place that a cell has once it is added, and the cells then: equal cells are kept once
abbrev pub place_of : List Cell → Cell → ℕ
place_of cells c = unwrap_or (place_in cells c) (length cells)

abbrev pub with_cell : List Cell → Cell → List Cell
with_cell cells c = cond (is_some (place_in cells c)) cells (cells ++ c ∷ [])
