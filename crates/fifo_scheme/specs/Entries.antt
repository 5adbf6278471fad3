-- How the code lists FIFOs.
use Rattle.std.specs.Prelude.{◌≡◌, ℕ, option_map, List, [], ◌∷◌, map, Contains}
use Rattle.cell_graph.specs.declared.net.Net.{Net}
use Rattle.cell_graph.specs.Cells.{Cells}
use Rattle.cell_graph.specs.Unfolded.{bit_of}
use Rattle.domains.specs.declared.Domains.{Domains}
use Rattle.cdc_model.specs.declared.scheme.Crossing.{Crossing}
use Rattle.cdc_model.specs.declared.scheme.GrayReg.{GrayReg}
use Rattle.cdc_model.specs.Nets.{design_of, next_tree}
use Rattle.cdc_model.specs.Schemes.{Sync}
use Rattle.gray_pointer.specs.Words.{IsIn}
use Rattle.fifo_laws.specs.Fifos.{Fifo, IsFifo}
use Rattle.fifo_laws.specs.Words.{Column}
use Rattle.fifo_scheme.specs.declared.found.Column.{Column as ColumnEntry}
use Rattle.fifo_scheme.specs.declared.found.Fifo.{Fifo as Entry}

-- a column, whose value is a bit of the tree of a cell
abbrev pub column_of : Cells → ColumnEntry → Column
column_of g c = record { words = c.words; value = option_map (bit_of g) c.value }

-- The entry of a FIFO.
pub record IsEntry (g : Cells) (f : Fifo) (e : Entry) : Type 0 where
  pub counts : (e.wb ≡ f.wb) × (e.wg ≡ f.wg) × (e.rb ≡ f.rb) × (e.rg ≡ f.rg)
  pub depth : e.depth ≡ f.depth
  pub columns : map (column_of g) e.columns ≡ f.columns
  pub values : (c : ColumnEntry) → Contains e.columns c → IsIn g c.value
  pub readers : e.readers ≡ f.readers
  pub crossings : e.crossings ≡ f.crossings

-- the entry is that of a FIFO over the lists
abbrev pub IsListedFifo : Net → Domains → List Sync → List GrayReg → Entry → Type 0
IsListedFifo net domains syncs grays e = (f : Fifo) × IsFifo (design_of net domains) (next_tree net) syncs grays f × IsEntry net.graph f e

-- FIFOs go by their counts and Gray registers
abbrev pub fifo_key : Entry → List ℕ
fifo_key e = e.wb ∷ e.wg ∷ e.rb ∷ e.rg ∷ []

-- the crossing is one of some FIFO
abbrev pub IsCrossingOfOne : List Entry → Crossing → Type 0
IsCrossingOfOne fifos c = (e : Entry) × Contains fifos e × Contains e.crossings c
