-- All crossings of a net, as one list.
use Rattle.std.specs.Prelude.{ℕ, suc, List, [], ◌∷◌, ◌++◌, map, filter}
use Rattle.cdc_base.specs.declared.bit.Bit.{Bit}
use Rattle.cdc_base.specs.declared.signal.Signal.{Signal}
use Rattle.cell_graph.specs.declared.net.Net.{Net}
use Rattle.cell_graph.specs.Cofactor.{reads}
use Rattle.cell_graph.specs.Reading.{Cube}
use Rattle.domains.specs.declared.Domains.{Domains}
use Rattle.domains.specs.Assignment.{group_of}
use Rattle.cdc_model.specs.declared.scheme.Crossing.{Crossing}
use Rattle.cdc_model.specs.Design.{are_async, bits_from, differ}
use Rattle.cdc_model.specs.Nets.{next_tree, bits_of_registers, design_of}

-- the bits of the signals from number sig on
abbrev pub bits_of_signals : ℕ → List Signal → List Bit
bits_of_signals sig [] = []
bits_of_signals sig (s ∷ ss) = bits_from sig 0 s.width ++ bits_of_signals (suc sig) ss

-- the bits that a register bit reads under a cube, ascending
abbrev pub bits_read_by : Net → Cube → Bit → List Bit
bits_read_by net cube x = filter (λ b. reads cube (next_tree net x.sig) x.at b) (bits_of_signals 0 net.graph.signals)

-- the crossings into a register bit
abbrev pub crossings_into : Net → Domains → Bit → List Crossing
crossings_into net domains x = map (λ (b : Bit). record { from = b; to = x }) (filter (λ b. are_async (design_of net domains) b x) (bits_read_by net [] x))

-- the crossings into a register bit from those of the bits that have another group
abbrev pub crossings_from : Domains → Bit → List Bit → List Crossing
crossings_from domains x bs = map (λ (b : Bit). record { from = b; to = x }) (filter (λ b. differ (group_of domains b) (group_of domains x)) bs)

-- the crossings into these bits
abbrev pub crossings_among : Net → Domains → List Bit → List Crossing
crossings_among net domains [] = []
crossings_among net domains (x ∷ xs) = crossings_into net domains x ++ crossings_among net domains xs

-- all crossings, by their ends, then their sources
abbrev pub crossings_of : Net → Domains → List Crossing
crossings_of net domains = crossings_among net domains (bits_of_registers net.graph.signals net.regs)
