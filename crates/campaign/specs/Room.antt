-- Room for a step.
use Rattle.std.specs.Prelude.{◌≡◌, List, Some, length}
use Rattle.std.specs.List.{Contains}
use Rattle.cell_graph.specs.declared.cell.CellId.{CellId}
use Rattle.cell_graph.specs.declared.net.Net.{Net}
use Rattle.cell_graph.specs.Below.{AreAscending, AreIn, IsClosed}
use Rattle.cell_graph.specs.Cells.{Cells}
use Rattle.campaign.specs.declared.probe.Probe.{Probe}

-- a cell with the cells on which it stands: they ascend, and have their operands among them
pub record IsConeOf (g : Cells) (top : CellId) (cells : List CellId) : Type 0 where
  pub has_top : Contains cells top
  pub ascending : AreAscending cells
  pub closed : IsClosed g cells
  pub within : AreIn g cells

-- there is room for a value of each cell, and the cells that are kept are those below the one that they are kept for
pub record HasProbe (net : Net) (p : Probe) : Type 0 where
  pub values : length p.values.items ≡ length net.graph.cells
  pub cone : (top : CellId) → p.top ≡ Some top → IsConeOf net.graph top p.cells.items
