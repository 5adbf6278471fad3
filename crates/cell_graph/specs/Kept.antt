-- What a graph keeps beside its cells: their widths, and a table of their places.
use Rattle.std.specs.Prelude.{◌≡◌, ℕ, ◌≤◌, ◌^◌, List, length, map}
use Rattle.std.specs.HashMap as hash
use Rattle.std.specs.HashMap.{HashMap}
use Rattle.cdc_base.specs.declared.signal.Signal.{Signal}
use Rattle.cell_graph.specs.declared.cell.Cell.{Cell}
use Rattle.cell_graph.specs.declared.cell.Entry.{Entry}
use Rattle.cell_graph.specs.Cells.{same_cell, place_in, widths}

abbrev pub cells_of : List Entry → List Cell
cells_of entries = map (λ (e : Entry). e.cell) entries

abbrev pub widths_of : List Entry → List ℕ
widths_of entries = map (λ (e : Entry). e.width) entries

pub record IsKept {S : Type 0} (signals : List Signal) (entries : List Entry) (places : HashMap Cell ℕ S) (calls : ℕ) : Type 0 where
  pub widths_are : widths_of entries ≡ widths signals (cells_of entries)
  pub placed : (c : Cell) → hash.get same_cell places c ≡ place_in (cells_of entries) c
  pub counted : length entries ≤ calls
  pub limited : calls ≤ 2 ^ 24
