-- Flops of chains, how deep they stand, and what is kept of who reads them.
use Rattle.std.specs.Prelude.{◌≡◌, ◌⊎◌, ℕ, zero, suc, true, Some, List, Contains}
use Rattle.cdc_base.specs.declared.bit.Bit.{Bit}
use Rattle.cell_graph.specs.declared.net.Net.{Net}
use Rattle.domains.specs.declared.Domains.{Domains}
use Rattle.cdc_model.specs.declared.scheme.Crossing.{Crossing}
use Rattle.cdc_model.specs.Nets.{is_register_bit}
use Rattle.cdc_model.specs.Readers.{Kept, reader_at, readers_of}
use Rattle.cdc_model.specs.Syncs.{copies, next_flop}

-- each crossing ends in a register bit
abbrev pub EndInRegisters : Net → List Crossing → Type 0
EndInRegisters net ks = (k : Crossing) → Contains ks k → is_register_bit net k.to ≡ true

-- x copies the source of a crossing of which it is the end, or it stands behind such a bit, n copies deep at most
abbrev pub IsReached : Net → List Crossing → ℕ → Bit → Type 0
IsReached net ks zero x = (k : Crossing) × Contains ks k × (k.to ≡ x) × (copies net x k.from ≡ true)
IsReached net ks (suc n) x = IsReached net ks n x ⊎ ((f : Bit) × IsReached net ks n f × (is_register_bit net x ≡ true) × (copies net x f ≡ true))

-- who reads the flop is kept, and who reads the flops behind it, n flops in all
abbrev pub AreKept : Net → Domains → Kept → ℕ → Bit → Type 0
AreKept net domains kept zero f = Unit {0}
AreKept net domains kept (suc n) f = (reader_at kept f ≡ readers_of net f) × ((g : Bit) → next_flop net domains f ≡ Some g → AreKept net domains kept n g)
