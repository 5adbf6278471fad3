-- The values that register bits take next, by the values of all cells.
use Rattle.std.specs.Prelude.{◌≡◌, length, List, ℕ, Bool, false}
use Rattle.std.specs.Option.{option_map_or}
use Rattle.cdc_base.specs.declared.bit.Bit.{Bit}
use Rattle.cell_graph.specs.declared.cell.CellId.{CellId}
use Rattle.cell_graph.specs.declared.net.Net.{Net}
use Rattle.cell_graph.specs.declared.net.Reg.{Reg}
use Rattle.cell_graph.specs.Tree.{bit, bit_at}
use Rattle.cell_graph.specs.Values.{word_at, reading_of}
use Rattle.cdc_model.specs.Design.{flipped}
use Rattle.cdc_model.specs.Nets.{next_cell, next_tree}
use Rattle.cdc_model.specs.Replay.{has_bit}
use Rattle.settling_sim.specs.declared.reader.Reader.{Reader}

-- the value of a register bit's node among the values of all cells
abbrev pub next_in : List ℕ → List Reg → Bit → Bool
next_in values regs x = option_map_or (λ (c : CellId). bit_at (word_at values c.0) x.at) (next_cell regs x.sig) false

-- the value that a register bit takes where the bits of a list have their other value
abbrev pub next_with : Net → List ℕ → List Bit → Bit → Bool
next_with net words bs x = bit (flipped (has_bit bs) (reading_of words)) (next_tree net x.sig) x.at

-- there is room for a value of each cell and a word of each signal
pub record HasRoom (net : Net) (reader : Reader) : Type 0 where
  pub cells : length reader.plain ≡ length net.graph.cells
  pub words : length reader.flipped.items ≡ length net.graph.signals
  pub tried : length reader.tried ≡ length net.graph.cells
